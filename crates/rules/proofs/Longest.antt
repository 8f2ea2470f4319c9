-- "no valid file is over 28,674 bytes": a rule file none over 1,540, since its first two counts have one byte, its third two, and each of 512 rules
-- a kind and two codes of one byte. The reading of a longer one looks at no byte past the two after them, where a last code of three bytes would end.
use Prim.Native.Nat.{ℕ, zero, suc, ◌+◌, ◌-◌, ◌*◌, ◌/◌, ◌≤◌, ◌<◌}
use mathlib.Core.Path.{◌≡◌, refl}
use mathlib.Core.Bool.{Bool, true, false, cond}
use mathlib.Core.List.{List}
use lib.ListN.{length, take}
use lib.Dec.{ltb, leb, eqb}
use native.Mathlib.Omega.{arith}
use borrow.Author.Tests.{lt-ltb, ltb-true}
use Rattle.number.specs.Answer.{about}
use Rattle.number.specs.declared.read.Read.{Read}
use Rattle.number.specs.declared.refusal.Fault.TheVariants.{Count, Unknown, Kind}
use Rattle.number.specs.declared.refusal.Side.TheVariants.{Rules}
use Rattle.std.specs.Prelude.{Ok}
use Rattle.number.proofs.Answers.{about_given, over_given, Given, given_gives, given_test, given_then, then_same}
use Rattle.number.proofs.Laws.{Bytes, two_bytes, one_form, one_byte}
use Rattle.site.specs.Codes.{concept_declared, role_declared}
use Rattle.site.specs.Items.{at_most, count_at, code_at, items_from, end_at}
use Rattle.site.specs.Limits.{most_number, most_concepts, most_roles, most_rules, last_kind, functional_kind}
use Rattle.site.proofs.There.{within_limit, tested_there, count_there, same_tested}
use Rattle.rule.specs.OneRule.{head_of, code_declared, kind_at, rule_at}
use Rattle.rules.specs.RuleFile.{next_rule, rules_from, after_rules, check_rules}
use Rattle.rule.specs.declared.head.Head.{Head}
use Rattle.rule.proofs.Accepted.{head_within}
use Rattle.rules.proofs.AcceptedFile.{accepted_rules}

-- 4 bytes of the counts, and 3 for each of 512 rules
abbrev pub longest : ℕ
longest = 1540

-- a declared code is below 128
role_low : (roles q : ℕ) → roles ≤ most_roles → role_declared roles q ≡ true → q < 64
role_low roles q few e = omega (arith, ltb-true (q / 2) roles e)

concept_low : (concepts roles b : ℕ) → roles ≤ most_roles → concept_declared concepts roles b ≡ true → b < 128
unfolding concept_declared
concept_low concepts roles b few = by_test (ltb b 64) refl
  where
    by_test : (t : Bool) → ltb b 64 ≡ t → cond t (ltb b concepts) (role_declared roles (b - 64)) ≡ true → b < 128
    by_test true is e = omega (arith, ltb-true b 64 is)
    by_test false is e = omega (arith, role_low roles (b - 64) few e)

pub code_low : (h : Head) (kind x : ℕ) → h.roles ≤ most_roles → code_declared h kind x ≡ true → x < 128
unfolding code_declared
code_low h kind x few = by_test (leb kind 1)
  where
    by_test : (t : Bool) → cond t (concept_declared h.concepts h.roles x) (role_declared h.roles x) ≡ true → x < 128
    by_test true e = concept_low h.concepts h.roles x few e
    by_test false e = omega (arith, role_low h.roles x few e)

-- how far a head, a rule and the rules reach
module _ (s : List ℕ) (bytes : Bytes s) where
  after_count : (at limit : ℕ) (n : Read ℕ) → limit < 128 → count_at s at limit Rules ≡ Ok n → n.next ≡ at + 1
  after_count at limit n small e =
      let c = count_there s at limit Rules n e in
      one_byte s at most_number Rules n.value n.next c.number bytes (omega (arith, c.within))

  after_kind : (at : ℕ) (n : Read ℕ) → kind_at s at ≡ Ok n → n.next ≡ at + 1
  after_kind at n e =
      let c = tested_there s at (at_most last_kind) Kind Rules n e in
      one_byte s at most_number Rules n.value n.next c.number bytes (omega (arith, within_limit last_kind n.value c.holds))

  head_near : Given (λ h. h.start ≤ 4) (head_of s)
  unfolding head_of
  head_near =
      given_then _ (count_at s 0 most_concepts Rules) _
      (λ c e.
      given_then _ (count_at s c.next most_roles Rules) _
      (λ q f.
      given_then _ (count_at s q.next most_rules Rules) _
      (λ n g.
      let k = count_there s q.next most_rules Rules n g in
      let size = (one_form s q.next most_number Rules n.value n.next k.number bytes).size in
      let first = after_count 0 most_concepts c (omega arith) e in
      let second = after_count c.next most_roles q (omega arith) f in
      given_gives _ _ (omega (arith, two_bytes n.value (omega (arith, k.within)))))))

  module _ (h : Head) (few : h.roles ≤ most_roles) where
    after_code : (kind at : ℕ) (n : Read ℕ) → code_at s at (code_declared h kind) Rules ≡ Ok n → n.next ≡ at + 1
    after_code kind at n e =
        let c = tested_there s at (code_declared h kind) Unknown Rules n e in
        one_byte s at most_number Rules n.value n.next c.number bytes (code_low h kind n.value few c.holds)

    rule_near : (at : ℕ) → Given (λ r. r.next ≤ at + 3) (rule_at h s at)
    unfolding rule_at
    rule_near at =
        given_then _ (kind_at s at) _
        (λ kind e.
        given_then _ (code_at s kind.next (code_declared h kind.value) Rules) _
        (λ x f.
        let first = after_kind at kind e in
        let second = after_code kind.value kind.next x f in
        given_test _ (eqb kind.value functional_kind) _ _ (given_gives _ _ (omega arith))
        (given_then _ (code_at s x.next (code_declared h kind.value) Rules) _
        (λ y g. given_gives _ _ (omega (arith, after_code kind.value x.next y g))))))

    next_near : (at : ℕ) → Given (λ next. next ≤ at + 3) (next_rule h s at)
    unfolding next_rule
    next_near at next e =
        let o = over_given (λ r. r.next) (rule_at h s at) e in
        omega (arith, rule_near at o.value o.given, o.told)

    rules_near : (k n at : ℕ) → Given (λ end. end ≤ at + 3 * n) (items_from (next_rule h s) k n at)
    unfolding items_from
    rules_near k zero at = given_gives (λ end. end ≤ at + 3 * 0) at (omega arith)
    rules_near k (suc n) at =
        given_then (λ end. end ≤ at + 3 * suc n) (about k (next_rule h s at)) (λ next. items_from (next_rule h s) (k + 1) n next)
        (λ next e end f. omega (arith, next_near at next (about_given k (next_rule h s at) e), rules_near (k + 1) n next end f))

  walk_near : (h : Head) (end : ℕ) → head_of s ≡ Ok h → rules_from h s h.rules h.start ≡ Ok end → end ≤ longest
  walk_near h end e f =
      let within = head_within s h e in
      omega (arith, head_near h e, within.rules, rules_near h within.roles 0 h.rules h.start end f)

-- an accepted rule file has at most so many bytes
pub accepted_short : (s : List ℕ) (h : Head) → Bytes s → check_rules s ≡ Ok h → length s ≤ longest
accepted_short s h bytes e =
    let a = accepted_rules s h e in
    omega (arith, a.at_end, walk_near s bytes h a.end a.head a.rules)

-- files that agree on their first n bytes
module _ (s t : List ℕ) (n : ℕ) (agree : take n s ≡ take n t) (bytes : Bytes s) where
  same_head : 5 ≤ n → head_of s ≡ head_of t
  unfolding head_of
  same_head h =
      rw (← (same_tested s t n agree 0 (omega arith) (at_most most_concepts) Count Rules))
      (then_same (count_at s 0 most_concepts Rules) _ _
      (λ c e.
      let first = after_count s bytes 0 most_concepts c (omega arith) e in
      rw (← (same_tested s t n agree c.next (omega arith) (at_most most_roles) Count Rules))
      (then_same (count_at s c.next most_roles Rules) _ _
      (λ q f.
      let second = after_count s bytes c.next most_roles q (omega arith) f in
      rw (same_tested s t n agree q.next (omega arith) (at_most most_rules) Count Rules)))))

  module _ (h : Head) (few : h.roles ≤ most_roles) where
    same_rule : (at : ℕ) → at + 5 ≤ n → rule_at h s at ≡ rule_at h t at
    unfolding rule_at
    same_rule at k =
        rw (← (same_tested s t n agree at (omega arith) (at_most last_kind) Kind Rules))
        (then_same (kind_at s at) _ _
        (λ kind e.
        let first = after_kind s bytes at kind e in
        rw (← (same_tested s t n agree kind.next (omega arith) (code_declared h kind.value) Unknown Rules))
        (then_same (code_at s kind.next (code_declared h kind.value) Rules) _ _
        (λ x f.
        let second = after_code s bytes h few kind.value kind.next x f in
        rw (same_tested s t n agree x.next (omega arith) (code_declared h kind.value) Unknown Rules)))))

    same_next : (at : ℕ) → at + 5 ≤ n → next_rule h s at ≡ next_rule h t at
    unfolding next_rule
    same_next at fits = rw (same_rule at fits)

    same_rules : (k m at : ℕ) → at + 3 * m + 2 ≤ n → items_from (next_rule h s) k m at ≡ items_from (next_rule h t) k m at
    unfolding items_from
    same_rules k zero at fits = refl
    same_rules k (suc m) at fits =
        rw (← (same_next at (omega arith)))
        (then_same (about k (next_rule h s at)) _ _
        (λ next e. same_rules (k + 1) m next (omega (arith, next_near s bytes h few at next (about_given k (next_rule h s at) e)))))

-- a longer one's answer is that of its first 1,542 bytes
module _ (s t : List ℕ) (long-s : longest < length s) (long-t : longest < length t) where
  after_both : (h : Head) (end : ℕ) → end ≤ longest → after_rules s h end ≡ after_rules t h end
  unfolding after_rules end_at
  after_both h end k = rw (lt-ltb end (length s) (omega arith), lt-ltb end (length t) (omega arith))

  pub past_longest : Bytes s → take (longest + 2) s ≡ take (longest + 2) t → check_rules s ≡ check_rules t
  unfolding check_rules
  past_longest bytes agree =
      rw (← (same_head s t (longest + 2) agree bytes (omega arith)))
      (then_same (head_of s) _ _
      (λ h e.
      let within = head_within s h e in
      let near = head_near s bytes h e in
      rw (← (same_rules s t (longest + 2) agree bytes h within.roles 0 h.rules h.start (omega (arith, within.rules))))
      (then_same (rules_from h s h.rules h.start) _ _
      (λ end f. after_both h end (walk_near s bytes h end e f)))))
