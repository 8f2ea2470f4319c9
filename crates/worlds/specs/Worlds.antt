-- Worlds: what the customer means by a fact that nobody disputes and by a question that is answered yes.
use Rattle.std.specs.Prelude.{ℕ, ◌-◌, ◌≤◌, ◌<◌, ◌≡◌, Bool, true, false, length, get_or}
use mathlib.Core.List.{List, [], ◌∷◌, Memᴰ}
use Rattle.site.specs.declared.fact.Fact.{Fact}
use Rattle.site.specs.Kinds.{BasicRole, BasicConcept, Rule, Site, of_concept}
use Rattle.site.specs.Kinds.BasicRole.{forward, inverse}
use Rattle.site.specs.Kinds.BasicConcept.{named, some}
use Rattle.site.specs.Kinds.Rule.{included, disjoint, role_included, role_disjoint, functional}
use Rattle.site.specs.Limits.{most_thing}

-- any type of things, concepts and roles as predicates over it, and a thing for each device number
pub record World : Type 1 where
  pub Thing : Type 0
  pub is_a : ℕ → Thing → Type 0
  pub joined : ℕ → Thing → Thing → Type 0
  pub thing : ℕ → Thing

-- "Two different device numbers always name two different things": numbers within the limit, by the number that stands for each
pub record Names (ρ : ℕ → ℕ) (w : World) : Type 0 where
  pub different : (a b : ℕ) → a ≤ most_thing → b ≤ most_thing → w.thing a ≡ w.thing b → ρ a ≡ ρ b
  pub alike : (a b : ℕ) → ρ a ≡ ρ b → w.thing a ≡ w.thing b

module _ (w : World) where
  -- a basic role joins two things: a role, or its inverse
  abbrev pub Joins : BasicRole → w.Thing → w.Thing → Type 0
  Joins (forward j) x y = w.joined j x y
  Joins (inverse j) x y = w.joined j y x

  -- a thing is within a basic concept: a concept, or "has some partner by q"
  abbrev pub Is : BasicConcept → w.Thing → Type 0
  Is (named i) x = w.is_a i x
  Is (some q) x = (y : w.Thing) × Joins q x y

  -- what each kind of rule means
  abbrev pub Obeys : Rule → Type 0
  Obeys (included b c) = (x : w.Thing) → Is b x → Is c x
  Obeys (disjoint b c) = (x : w.Thing) → Is b x → Is c x → ⊥
  Obeys (role_included p q) = (x y : w.Thing) → Joins p x y → Joins q x y
  Obeys (role_disjoint p q) = (x y : w.Thing) → Joins p x y → Joins q x y → ⊥
  Obeys (functional q) = (x y z : w.Thing) → Joins q x y → Joins q x z → y ≡ z

  -- what a fact means: A(a), or R(a,b)
  abbrev pub Says : Bool → Fact → Type 0
  Says true f = w.is_a f.predicate (w.thing f.subject)
  Says false f = w.joined (f.predicate - 64) (w.thing f.subject) (w.thing f.object)

  -- a fact, as its predicate is a concept's or a role's
  abbrev pub Holds : Fact → Type 0
  Holds f = Says (of_concept f) f

-- a world of some rules and facts
pub record WorldOf (ρ : ℕ → ℕ) (s : Site) (facts : List Fact) (w : World) : Type 0 where
  pub names : Names ρ w
  pub obeys : (r : Rule) → Memᴰ r s.rules → Obeys w r
  pub holds : (f : Fact) → Memᴰ f facts → Holds w f

module _ (ρ : ℕ → ℕ) (s : Site) where
  -- "consistent if some world, perhaps without end, satisfies the rules and these facts"
  abbrev pub Consistent : List Fact → Type 1
  Consistent facts = (w : World) × WorldOf ρ s facts w

  -- a consistent set of the bundle's facts to which no further fact of the bundle can be added
  pub record Maximal (facts set : List Fact) : Type 1 where
    pub within : (f : Fact) → Memᴰ f set → Memᴰ f facts
    pub consistent : Consistent set
    pub full : (f : Fact) → Memᴰ f facts → Consistent (f ∷ set) → Memᴰ f set

  -- "some consistent set of the bundle's facts, to which no further fact of the bundle can be added consistently, leaves it out"
  abbrev pub LeftOut : List Fact → Fact → Type 1
  LeftOut facts f = (set : List Fact) × Maximal facts set × (Memᴰ f set → ⊥)

  -- two facts that clash: each has a world, and both together have none
  pub record Conflict (f g : Fact) : Type 1 where
    pub first : Consistent (f ∷ [])
    pub second : Consistent (g ∷ [])
    pub both : Consistent (f ∷ g ∷ []) → ⊥

  -- "the lowest-numbered fact it clashes with"
  pub record LowestConflict (facts : List Fact) (f : Fact) (n : ℕ) : Type 1 where
    pub inside : n < length facts
    pub conflict : (d : Fact) → Conflict f (get_or facts n d)
    pub lowest : (d : Fact) (k : ℕ) → k < n → Conflict f (get_or facts k d) → ⊥

  -- "it holds in every world of the rules and the kept facts"
  abbrev pub Always : List Fact → ((w : World) → Type 0) → Type 1
  Always facts P = (w : World) → WorldOf ρ s facts w → P w
