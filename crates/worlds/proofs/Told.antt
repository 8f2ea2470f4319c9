-- What a list of facts tells of named things: every node that a type of a fact is included in. It is closed as the chase needs it, and
-- harmless if no two of the facts contradict each other.
use Prim.Native.Nat.{ℕ}
use mathlib.Core.Path.{◌≡◌, refl, subst}
use mathlib.Core.Bool.{Bool, true, false, cond}
use mathlib.Core.Logic.{◌⊎◌, inl, inr}
use mathlib.Core.List.{List, [], ◌∷◌, Memᴰ}
use lib.Dec.{eqb}
use borrow.Author.Tests.{eqb-true, eqb-false}
use Rattle.site.specs.declared.fact.Fact.{Fact}
use Rattle.site.specs.Kinds.{BasicRole, Node, Site, declared}
use Rattle.site.specs.Kinds.Node.{role}
use Rattle.site.specs.Kinds.Rule.{functional}
use Rattle.site.specs.Codes.{predicate_declared}
use Rattle.site.proofs.Lists.{either, true_not_false}
use Rattle.rules.specs.Lawful.{Lawful}
use Rattle.steps.specs.Steps.{Included, Excluded}
use Rattle.steps.specs.Steps.Included.{step_1, step_2}
use Rattle.steps.specs.Steps.Excluded.{step_5, step_6}
use Rattle.steps.proofs.Laws.{turned_node, some_node, included_turn, included_having, included_declared, functional_alone}
use Rattle.clashes.proofs.OfTypes.{TypeOf, Against, against_turned}
use Rattle.clashes.proofs.OfTypes.TypeOf.{is_a, has, had, joins, joined}
use Rattle.clashes.proofs.OfTypes.Against.{jars, splits}
use Rattle.worlds.proofs.Chase.{Closed, Harmless}

-- the facts tell that a node holds at an ordered pair
pub record Told (ρ : ℕ → ℕ) (s : Site) (facts : List Fact) (x : Node) (a b : ℕ) : Type 0 where
  pub fact : Fact
  pub member : Memᴰ fact facts
  pub node : Node
  pub of : TypeOf ρ fact node a b
  pub below : Included s node x

-- no two of the facts, perhaps the same one, contradict each other
abbrev pub Peaceful : (ℕ → ℕ) → Site → List Fact → Type 0
Peaceful ρ s facts = (f g : Fact) → Memᴰ f facts → Memᴰ g facts → Against ρ s f g → ⊥

module _ {ρ : ℕ → ℕ} {s : Site} where
  pub peaceful_nil : Peaceful ρ s []
  peaceful_nil f g m = elim m [ ]

  pub peaceful_cons : {f : Fact} {facts : List Fact} → (Against ρ s f f → ⊥)
      → ((g : Fact) → Memᴰ g facts → Against ρ s f g → ⊥)
      → Peaceful ρ s facts
      → Peaceful ρ s (f ∷ facts)
  peaceful_cons {f} {facts} alone others rest x y (Memᴰ.head e) (Memᴰ.head q) c =
      alone (subst (λ (z : Fact). Against ρ s f z) q (subst (λ (z : Fact). Against ρ s z y) e c))
  peaceful_cons {f} {facts} alone others rest x y (Memᴰ.head e) (Memᴰ.tail m) c =
      others y m (subst (λ (z : Fact). Against ρ s z y) e c)
  peaceful_cons {f} {facts} alone others rest x y (Memᴰ.tail m) (Memᴰ.head e) c =
      others x m (against_turned (subst (λ (z : Fact). Against ρ s x z) e c))
  peaceful_cons {f} {facts} alone others rest x y (Memᴰ.tail m) (Memᴰ.tail k) c = rest x y m k c

-- the predicate of a fact is declared
abbrev pub Spoken : Site → Fact → Type 0
Spoken s f = predicate_declared s.concepts s.roles f.predicate ≡ true

chosen : (b x y : Bool) → cond b x y ≡ true → b ≡ true → x ≡ true
chosen true x y h e = h
chosen false x y h e = absurd (true_not_false e refl)

other : (b x y : Bool) → cond b x y ≡ true → b ≡ false → y ≡ true
other true x y h e = absurd (true_not_false refl e)
other false x y h e = h

pub type_declared : {ρ : ℕ → ℕ} (s : Site) {f : Fact} {x : Node} {a b : ℕ} → Spoken s f → TypeOf ρ f x a b → declared s x ≡ true
unfolding predicate_declared
type_declared s h (is_a e) = chosen _ _ _ h e
type_declared s h (has e) = other _ _ _ h e
type_declared s h (had e) = other _ _ _ h e
type_declared s h (joins e) = other _ _ _ h e
type_declared s h (joined e) = other _ _ _ h e

-- the types of a fact, turned round or of the first thing alone, are types of it
module _ {ρ : ℕ → ℕ} {f : Fact} where
  of_turn : {x : Node} {a b : ℕ} → TypeOf ρ f x a b → TypeOf ρ f (turned_node x) b a
  of_turn (is_a h) = is_a h
  of_turn (has h) = has h
  of_turn (had h) = had h
  of_turn (joins h) = joined h
  of_turn (joined h) = joins h

  of_having : {x : Node} {a b : ℕ} → TypeOf ρ f x a b → TypeOf ρ f (some_node x) a a
  of_having (is_a h) = is_a h
  of_having (has h) = has h
  of_having (had h) = had h
  of_having (joins h) = has h
  of_having (joined h) = had h

module _ (ρ : ℕ → ℕ) (s : Site) (facts : List Fact) where
  pub type_told : {f : Fact} {x : Node} {a b : ℕ} → Spoken s f → Memᴰ f facts → TypeOf ρ f x a b → Told ρ s facts x a b
  type_told {f} {x} h m i = record { fact = f; member = m; node = x; of = i; below = step_1 (type_declared s h i) }

  module _ (law : Lawful s) where
    widened : {x y : Node} {a b : ℕ} → Told ρ s facts x a b → Included s x y → Told ρ s facts y a b
    widened r i = record { fact = r.fact; member = r.member; node = r.node; of = r.of; below = step_2 r.below i }

    turned_round : {x : Node} {a b : ℕ} → Told ρ s facts x a b → Told ρ s facts (turned_node x) b a
    turned_round r =
        record { fact = r.fact; member = r.member; node = turned_node r.node; of = of_turn r.of; below = included_turn s r.below }

    of_first : {x : Node} {a b : ℕ} → Told ρ s facts x a b → Told ρ s facts (some_node x) a a
    of_first r =
        record { fact = r.fact; member = r.member; node = some_node r.node; of = of_having r.of; below = included_having s r.below }

    pub told_closed : Closed s (Told ρ s facts)
    told_closed = record { widens = widened; turns = turned_round; having_of = of_first; known = λ r. (included_declared s law r.below).right }

    module _ (peace : Peaceful ρ s facts) where
      apart : {x y : Node} {a b : ℕ} → Told ρ s facts x a b → Told ρ s facts y a b → Excluded s x y → ⊥
      apart r q e =
          peace r.fact q.fact r.member q.member
          (jars r.of q.of (step_6 r.below (step_5 (step_6 q.below (step_5 e)))))

      single : {q : BasicRole} {a b c : ℕ} → Memᴰ (functional q) s.rules → Told ρ s facts (role q) a b → Told ρ s facts (role q) a c
          → b ≡ c
      single {q} {a} {b} {c} m r k = go (either (eqb b c))
        where
          itself : {e : ℕ} (z : Told ρ s facts (role q) a e) → TypeOf ρ z.fact (role q) a e
          itself {e} z = subst (λ (n : Node). TypeOf ρ z.fact n a e) (functional_alone s law q m z.below refl) z.of

          go : (eqb b c ≡ true) ⊎ (eqb b c ≡ false) → b ≡ c
          go (inl e) = eqb-true b c e
          go (inr e) = absurd (peace r.fact k.fact r.member k.member (splits (itself r) (itself k) m (eqb-false b c e)))

      pub told_harmless : Harmless s (Told ρ s facts)
      told_harmless = record { apart = apart; single = single }
