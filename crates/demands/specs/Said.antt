-- "Marks, partners, answers" as document 01 says them, over what is included and excluded by its steps: no table and no search stands here. A fact's
-- types are a list (`types_of`), and steps 1 to 8 are the constructors of `Included` and `Excluded`.
use Rattle.std.specs.Prelude.{ℕ, ◌<◌, ◌≡◌, ◌⊎◌, length, get_or}
use mathlib.Core.List.{List, [], ◌∷◌, Memᴰ}
use Rattle.site.specs.declared.fact.Fact.{Fact}
use Rattle.site.specs.Kinds.{BasicRole, Site}
use Rattle.site.specs.Kinds.Node.{role}
use Rattle.site.specs.Kinds.Rule.{functional}
use Rattle.site.specs.Limits.{no_partner}
use Rattle.steps.specs.Steps.{Included, Excluded}
use Rattle.clashes.specs.Types.{Typ, typ, types_of}

-- "Rules, facts, records and lines are numbered from 0."
pub record Numbered (facts : List Fact) (k : ℕ) (f : Fact) : Type 0 where
  pub inside : k < length facts
  pub is : get_or facts k f ≡ f

-- those of a list that have a property, in order
pub data Those {A : Type 0} (P : A → Type 0) : List A → List A → Type 0 where
  none : Those P [] []
  this : {x : A} {xs ys : List A} → P x → Those P xs ys → Those P (x ∷ xs) (x ∷ ys)
  not_this : {x : A} {xs ys : List A} → (P x → ⊥) → Those P xs ys → Those P (x ∷ xs) ys

-- "each the number of facts with that property"
pub record HowMany {A : Type 0} (P : A → Type 0) (xs : List A) (n : ℕ) : Type 0 where
  pub those : List A
  pub are : Those P xs those
  pub many : n ≡ length those

-- ρ gives the thing that a device number stands for
module _ (ρ : ℕ → ℕ) (s : Site) where
  -- "a type of one and a type of the other at the same thing or ordered pair exclude each other"
  pub record Jars (f g : Fact) : Type 0 where
    pub one : Typ
    pub other : Typ
    pub of_first : Memᴰ one (types_of ρ f)
    pub of_second : Memᴰ other (types_of ρ g)
    pub same_from : one.from ≡ other.from
    pub same_to : one.to ≡ other.to
    pub exclude : Excluded s one.node other.node

  -- "a functional q joins one thing to two different things by them"
  pub record Splits (f g : Fact) : Type 0 where
    pub by : BasicRole
    pub from : ℕ
    pub one : ℕ
    pub other : ℕ
    pub is_functional_lem : Memᴰ (functional by) s.rules
    pub of_first : Memᴰ (typ (role by) from one) (types_of ρ f)
    pub of_second : Memᴰ (typ (role by) from other) (types_of ρ g)
    pub different : one ≡ other → ⊥

  -- "Alone: two types of the fact, perhaps the same one, at the same thing or the same ordered pair, exclude each other."
  abbrev pub Alone : Fact → Type 0
  Alone f = Jars f f

  -- "Clash of two facts, neither alone: a type of one and a type of the other .. exclude each other; or a functional q .."
  pub record Clash (f g : Fact) : Type 0 where
    pub first_not_alone : Alone f → ⊥
    pub second_not_alone : Alone g → ⊥
    pub contradict : Jars f g ⊎ Splits f g

  -- "one of whose types, at a or at the pair, is included in the asked code"
  pub record Supports (asked : Typ) (f : Fact) : Type 0 where
    pub one : Typ
    pub of : Memᴰ one (types_of ρ f)
    pub same_from : one.from ≡ asked.from
    pub same_to : one.to ≡ asked.to
    pub included : Included s one.node asked.node

  module _ (facts : List Fact) where
    -- "2 disputed (clashes with some fact)"
    pub record Disputed (f : Fact) : Type 0 where
      pub by : Fact
      pub within : Memᴰ by facts
      pub clash : Clash f by

    -- "0 kept": neither of the others
    pub record Kept (f : Fact) : Type 0 where
      pub not_alone : Alone f → ⊥
      pub not_disputed : Disputed f → ⊥

    -- "Marks, one byte a fact: 0 kept, 1 alone, 2 disputed (clashes with some fact)."
    pub data MarkIs (f : Fact) : ℕ → Type 0 where
      kept : Kept f → MarkIs f 0
      alone : Alone f → MarkIs f 1
      disputed : Disputed f → MarkIs f 2

    -- "the lowest-numbered fact it clashes with"
    pub record LowestClash (f : Fact) (n : ℕ) : Type 0 where
      pub partner : Fact
      pub is_fact : Numbered facts n partner
      pub clash : Clash f partner
      pub lowest : (k : ℕ) (g : Fact) → Numbered facts k g → Clash f g → k < n → ⊥

    -- "Partners, one 16-bit number a fact: the lowest-numbered fact it clashes with, or 65,535 for marks 0 and 1."
    pub data PartnerIs (f : Fact) : ℕ → ℕ → Type 0 where
      of_kept : PartnerIs f 0 no_partner
      of_alone : PartnerIs f 1 no_partner
      of_disputed : {n : ℕ} → LowestClash f n → PartnerIs f 2 n

    -- "the lowest-numbered kept fact one of whose types, at a or at the pair, is included in the asked code"
    pub record LowestSupport (asked : Typ) (n : ℕ) : Type 0 where
      pub by : Fact
      pub is_fact : Numbered facts n by
      pub is_kept : Kept by
      pub supports : Supports asked by
      pub lowest : (k : ℕ) (g : Fact) → Numbered facts k g → Kept g → Supports asked g → k < n → ⊥

    -- "yes with" that fact, "else no", as C sees it: yes 1 with the fact's number, or zeros
    pub data AnswerIs (asked : Typ) : ℕ → ℕ → Type 0 where
      yes_by : {n : ℕ} → LowestSupport asked n → AnswerIs asked 1 n
      no_fact_lem : ((f : Fact) → Memᴰ f facts → Kept f → Supports asked f → ⊥) → AnswerIs asked 0 0
