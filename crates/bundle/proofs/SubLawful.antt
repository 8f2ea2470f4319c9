-- Some of a lawful list's facts, in their order, are lawful too: the order of facts is transitive. So the bundle of the kept facts is accepted.
use mathlib.Core.Path.{◌≡◌, refl}
use mathlib.Core.Bool.{Bool, true}
use mathlib.Core.List.{List}
use native.Mathlib.Omega.{arith}
use Rattle.number.proofs.Writing.{picked}
use Rattle.site.specs.declared.fact.Fact.{Fact}
use Rattle.site.specs.Kinds.{below}
use Rattle.site.specs.Lists.{keep}
use Rattle.site.proofs.Lists.{length_keep, count_within}
use Rattle.site.proofs.Order.{below_trans}
use Rattle.rule.specs.declared.head.Head.{Head}
use Rattle.bundle.specs.Bundle.{ascends}
use Rattle.std.specs.Prelude.{Option}
use Rattle.std.specs.Prelude.{None, Some}
use Rattle.bundle.specs.Lawful.{LawfulFrom, LawfulFacts}
use Rattle.bundle.specs.Lawful.LawfulFrom.{done, next}

-- a fact above one that is above the last is above the last
ascends_through : (last : Option Fact) (f g : Fact) → ascends last f ≡ true → below f g ≡ true → ascends last g ≡ true
ascends_through None f g k l = refl
ascends_through (Some e) f g k l = below_trans e f g k l

module _ (h : Head) where
  skipped : {last : Option Fact} {fs : List Fact} (f : Fact) → ascends last f ≡ true → LawfulFrom h (Some f) fs → LawfulFrom h last fs
  skipped f up done = done
  skipped {last = last} f up (next {f = g} l higher rest) = next l (ascends_through last f g up higher) rest

  some_lawful : {last : Option Fact} {fs : List Fact} (p : Fact → Bool) → LawfulFrom h last fs → LawfulFrom h last (keep p fs)
  unfolding keep
  some_lawful p done = done
  some_lawful {last = last} p (next {f = f} {fs = fs} l up rest) =
      picked (LawfulFrom h last) _ _ (p f) (λ t. next l up (some_lawful p rest)) (λ t. skipped f up (some_lawful p rest))

  -- some of the facts that a bundle may hold
  pub keep_lawful : (p : Fact → Bool) (facts : List Fact) → LawfulFacts h facts → LawfulFacts h (keep p facts)
  keep_lawful p facts l = record { few = omega (arith, length_keep p facts, count_within p facts, l.few); lawful = some_lawful p l.lawful }
