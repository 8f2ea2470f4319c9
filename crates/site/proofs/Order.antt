-- The order of facts, "by predicate, then subject, then object", as a family of three cases: it is transitive, no fact is below itself, and
-- the code's `<` is it.
use Prim.Native.Nat.{◌<◌}
use mathlib.Core.Path.{◌≡◌}
use mathlib.Core.Bool.{Bool, true, false, ◌&&◌, ◌||◌}
use mathlib.Core.Logic.{◌⊎◌, inl, inr}
use lib.Dec.{eqb, ltb}
use borrow.Author.Tests.{ltb-true, lt-ltb, eqb-true, eq-eqb}
use native.Mathlib.Omega.{arith}
use borrow.Author.Rules.{rules}
use Rattle.std.specs.Ordering.{partial_lt}
use Rattle.site.specs.Kinds.{below}
use Rattle.site.specs.contracts.fact.FactPartialOrd.TheImpl.{partial_cmp-value}
use Rattle.site.specs.declared.fact.Fact.{Fact}
use Rattle.site.proofs.Lists.{or_cases, or_left, or_right, and_left, and_right, and_both, is_false}

-- what puts one fact below another
pub data Below (f g : Fact) : Type 0 where
  in_predicate : f.predicate < g.predicate → Below f g
  in_subject : f.predicate ≡ g.predicate → f.subject < g.subject → Below f g
  in_object : f.predicate ≡ g.predicate → f.subject ≡ g.subject → f.object < g.object → Below f g

module _ (f g : Fact) where
  abbrev lower_object : Bool
  lower_object = eqb f.subject g.subject && ltb f.object g.object

  abbrev lower_subject : Bool
  lower_subject = ltb f.subject g.subject || lower_object

  pub below_is : below f g ≡ true → Below f g
  below_is h = by_predicate (or_cases (ltb f.predicate g.predicate) (eqb f.predicate g.predicate && lower_subject) h)
    where
      by_subject : f.predicate ≡ g.predicate → (ltb f.subject g.subject ≡ true) ⊎ (lower_object ≡ true) → Below f g
      by_subject p (inl e) = in_subject p (ltb-true _ _ e)
      by_subject p (inr e) =
          in_object p (eqb-true _ _ (and_left (eqb f.subject g.subject) _ e))
          (ltb-true _ _ (and_right (eqb f.subject g.subject) _ e))

      by_predicate : (ltb f.predicate g.predicate ≡ true) ⊎ ((eqb f.predicate g.predicate && lower_subject) ≡ true) → Below f g
      by_predicate (inl e) = in_predicate (ltb-true _ _ e)
      by_predicate (inr e) =
          by_subject (eqb-true _ _ (and_left (eqb f.predicate g.predicate) _ e))
          (or_cases (ltb f.subject g.subject) lower_object (and_right (eqb f.predicate g.predicate) _ e))

  pub is_below : Below f g → below f g ≡ true
  is_below (in_predicate p) = or_left _ _ (lt-ltb _ _ p)
  is_below (in_subject p s) =
      or_right (ltb f.predicate g.predicate) _ (and_both _ _ (eq-eqb _ _ p) (or_left _ _ (lt-ltb _ _ s)))
  is_below (in_object p s o) =
      or_right (ltb f.predicate g.predicate) _
      (and_both _ _ (eq-eqb _ _ p) (or_right (ltb f.subject g.subject) _ (and_both _ _ (eq-eqb _ _ s) (lt-ltb _ _ o))))

below_on : {f g h : Fact} → Below f g → Below g h → Below f h
below_on (in_predicate p) (in_predicate q) = in_predicate (omega arith)
below_on (in_predicate p) (in_subject q t) = in_predicate (omega arith)
below_on (in_predicate p) (in_object q t u) = in_predicate (omega arith)
below_on (in_subject p s) (in_predicate q) = in_predicate (omega arith)
below_on (in_subject p s) (in_subject q t) = in_subject (omega arith) (omega arith)
below_on (in_subject p s) (in_object q t u) = in_subject (omega arith) (omega arith)
below_on (in_object p s o) (in_predicate q) = in_predicate (omega arith)
below_on (in_object p s o) (in_subject q t) = in_subject (omega arith) (omega arith)
below_on (in_object p s o) (in_object q t u) = in_object (omega arith) (omega arith) (omega arith)

-- a fact below one that is below a third is below the third
pub below_trans : (f g h : Fact) → below f g ≡ true → below g h ≡ true → below f h ≡ true
below_trans f g h a b = is_below f h (below_on (below_is f g a) (below_is g h b))

not_below_itself : {f : Fact} → Below f f → ⊥
not_below_itself (in_predicate p) = omega arith
not_below_itself (in_subject p s) = omega arith
not_below_itself (in_object p s o) = omega arith

-- no fact is below itself
pub below_irreflexive : (f : Fact) → below f f ≡ false
below_irreflexive f = is_false (λ e. not_below_itself (below_is f f e))

-- the code's `f < g`
pub less_is_below : (f g : Fact) → partial_lt partial_cmp-value.it f g ≡ below f g
less_is_below f g = search rules
