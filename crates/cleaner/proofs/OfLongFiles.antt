-- "a longer file gets the refusal its whole bytes get, since no valid file is over 28,674 bytes": whatever is asked of two files, their first bytes that
-- the buffers hold get the answer that the whole files get. It holds of any buffer that has room for more than 28,674 bytes. A file that fits is its own
-- start; a longer one is refused, and so is its start, alike.
use Prim.Native.Nat.{ℕ, ◌+◌, ◌≤◌, ◌<◌}
use mathlib.Core.Path.{◌≡◌, refl, sym, ap, ◌∙◌}
use mathlib.Core.Bool.{Bool, true, false}
use mathlib.Core.List.{List}
use lib.Dec.{leb}
use lib.ListN.{length, take}
use lib.Seq.{length-take-le, take-take, take_all}
use native.Mathlib.Omega.{arith}
use borrow.Author.Tests.{leb-true, leb-false}
use Rattle.number.specs.Answer.{Answer}
use Rattle.std.specs.Prelude.{Ok, Err}
use Rattle.number.proofs.Laws.{Bytes}
use Rattle.site.specs.Limits.{most_roles}
use Rattle.site.specs.declared.fact.Fact.{Fact}
use Rattle.rules.specs.RuleFile.{check_rules, site_of}
use Rattle.rule.specs.declared.head.Head.{Head}
use Rattle.rules.proofs.AcceptedFile.{accepted_lawful}
use Rattle.rules.proofs.Longest.{longest as longest_rules, accepted_short as rules-short, past_longest as past-rules}
use Rattle.bundle.specs.Bundle.{check_bundle, read_bundle}
use Rattle.bundle.specs.declared.facts.Facts.{Facts}
use Rattle.bundle.proofs.Longest.{longest, accepted_short, past_longest}
use Rattle.steps.specs.Tables.{Follows}
use Rattle.clean.specs.Operations.{given}

module _ (room : ℕ) (enough : longest < room) where
  -- ---- a bundle that is longer than the buffer
  module _ (h : Head) (few : h.roles ≤ most_roles) (s : List ℕ) (bytes : Bytes s) where
    module _ (long : room < length s) where
      same_check : check_bundle h (take room s) ≡ check_bundle h s
      same_check =
          let held : length (take room s) ≡ room = length-take-le room s (omega arith) in
          sym (past_longest h few s (take room s) (omega arith) (omega arith) bytes (sym (take-take (longest + 1) room s (omega arith))))

      by_answer : (a : Answer Facts) → check_bundle h s ≡ a → read_bundle h (take room s) ≡ read_bundle h s
      unfolding read_bundle
      by_answer (Ok b) e = absurd (omega (arith, accepted_short h few s b bytes e))
      by_answer (Err r) e = rw (same_check, e)

      pub long_bundle : read_bundle h (take room s) ≡ read_bundle h s
      long_bundle = by_answer (check_bundle h s) refl

    -- whether it is longer or not
    any_bundle : read_bundle h (take room s) ≡ read_bundle h s
    any_bundle = go (leb (length s) room) refl
      where
        go : (b : Bool) → leb (length s) room ≡ b → read_bundle h (take room s) ≡ read_bundle h s
        go true e = ap (read_bundle h) (take_all room s (leb-true (length s) room e))
        go false e = long_bundle (leb-false (length s) room e)

  -- ---- rules that are longer than the buffer
  module _ (s : List ℕ) (bytes : Bytes s) (long : room < length s) where
    pub long_rules : check_rules (take room s) ≡ check_rules s
    long_rules =
        let held : length (take room s) ≡ room = length-take-le room s (omega arith) in
        sym (past-rules s (take room s) (omega arith) (omega arith) bytes (sym (take-take (longest_rules + 2) room s (omega arith))))

  -- ---- both, and whatever is asked of them
  module _ {A : Type 0} (rules bundle : List ℕ) (bytes-r : Bytes rules) (bytes-b : Bytes bundle) (k : Head → Follows → List Fact → Answer A) where
    -- accepted rules that fit
    same_rest : (h : Head) → check_rules rules ≡ Ok h → given rules (take room bundle) k ≡ given rules bundle k
    unfolding given site_of
    same_rest h e = rw (e, any_bundle h (accepted_lawful rules h e).roles_within bundle bytes-b)

    -- refused rules: the bundle is not looked at
    unread : (s t : List ℕ) (c : Answer Head) → check_rules s ≡ c → check_rules t ≡ c → ((h : Head) → c ≡ Ok h → given s (take room bundle) k ≡ given t bundle k) → given s (take room bundle) k ≡ given t bundle k
    unfolding given
    unread s t (Ok h) e f both = both h refl
    unread s t (Err r) e f both = rw (e, f)

    pub long_files : given (take room rules) (take room bundle) k ≡ given rules bundle k
    long_files = go (leb (length rules) room) refl
      where
        go : (b : Bool) → leb (length rules) room ≡ b → given (take room rules) (take room bundle) k ≡ given rules bundle k
        go true e =
            ap (λ (s : List ℕ). given s (take room bundle) k) (take_all room rules (leb-true (length rules) room e))
            ∙ unread rules rules (check_rules rules) refl refl (λ h is. same_rest h is)
        go false e =
            unread (take room rules) rules (check_rules rules) (long_rules rules bytes-r (leb-false (length rules) room e)) refl
            (λ h is. absurd (omega (arith, rules-short rules h bytes-r is, leb-false (length rules) room e)))
