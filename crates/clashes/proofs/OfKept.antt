-- The kept facts: those of mark 0, in order; so a bundle may hold them if it may hold the facts.
use Prim.Native.Nat.{ℕ}
use mathlib.Core.Path.{◌≡◌}
use mathlib.Core.Logic.{◌↔◌}
use mathlib.Core.List.{List, Memᴰ}
use borrow.Author.Tests.{eqb-true, eq-eqb}
use Rattle.site.specs.declared.fact.Fact.{Fact}
use Rattle.site.proofs.Lists.{keep_found, keep_of}
use Rattle.rule.specs.declared.head.Head.{Head}
use Rattle.bundle.specs.Lawful.{LawfulFacts}
use Rattle.bundle.proofs.SubLawful.{keep_lawful}
use Rattle.steps.specs.Tables.{Follows}
use Rattle.clashes.specs.Marks.{mark, marked, kept}

-- a kept fact is a fact of mark 0
pub record KeptFact (ρ : ℕ → ℕ) (t : Follows) (facts : List Fact) (f : Fact) : Type 0 where
  pub within : Memᴰ f facts
  pub mark_0 : mark ρ t facts f ≡ 0

pub kept_is : (ρ : ℕ → ℕ) (t : Follows) (facts : List Fact) (f : Fact) → Memᴰ f (kept ρ t facts) ↔ KeptFact ρ t facts f
unfolding kept marked
kept_is ρ t facts f = (
  λ m. let k = keep_found (marked ρ t facts 0) facts m in record { within = k.within; mark_0 = eqb-true _ 0 k.passes },
  λ k. keep_of (marked ρ t facts 0) k.within (eq-eqb _ 0 k.mark_0),
)

-- the kept facts of a bundle are such as a bundle may hold
pub kept_lawful : (ρ : ℕ → ℕ) (t : Follows) {h : Head} {facts : List Fact} → LawfulFacts h facts → LawfulFacts h (kept ρ t facts)
unfolding kept
kept_lawful ρ t {h} {facts} l = keep_lawful h (marked ρ t facts 0) facts l
