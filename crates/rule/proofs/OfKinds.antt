-- A kind from the number that stands for it.
use Prim.Native.Nat.{ℕ, ◌<◌}
use mathlib.Core.Path.{◌≡◌}
use mathlib.Core.List.{List}
use borrow.Author.Tests.{le-leb, lt-leb}
use Rattle.std.specs.Prelude.{Ok, Err}
use Rattle.number.specs.Answer.{refusal}
use Rattle.number.specs.Number.{number_at}
use Rattle.number.specs.declared.read.Read.{Read}
use Rattle.number.specs.declared.refusal.Fault.TheVariants.{Kind as KindFault}
use Rattle.number.specs.declared.refusal.Refusal.{Refusal}
use Rattle.number.specs.declared.refusal.Side.TheVariants.{Rules}
use Rattle.site.specs.Items.{at_most}
use Rattle.site.specs.Limits.{most_number, last_kind}
use Rattle.site.specs.Told.{kind_number}
use Rattle.site.specs.declared.rule.Kind.{Kind}
use Rattle.site.proofs.OfItems.{tested_refused, tested_passes, tested_fails}
use Rattle.site.proofs.OfKinds.{kind_within}
use Rattle.rule.specs.OneRule.{kind_at}

module _ (s : List ℕ) (at : ℕ) where
  pub kind_refused : (r : Refusal) → Err r ≡ number_at s at most_number Rules → Err r ≡ kind_at s at
  kind_refused r is = tested_refused s at Rules (at_most last_kind) KindFault r is

  module _ (n : Read ℕ) (is : Ok n ≡ number_at s at most_number Rules) where
    pub kind_known : (k : Kind) → kind_number k ≡ n.value → Ok (record { value = kind_number k; next = n.next }) ≡ kind_at s at
    unfolding at_most
    kind_known k e = rw e (tested_passes s at Rules (at_most last_kind) KindFault n is (rw (← e) (le-leb (kind_number k) last_kind (kind_within k))))

    pub kind_unknown : 4 < n.value → Err (refusal KindFault Rules at) ≡ kind_at s at
    unfolding at_most
    kind_unknown over = tested_fails s at Rules (at_most last_kind) KindFault n is (lt-leb n.value 4 over)
