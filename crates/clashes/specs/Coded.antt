-- The same tests over numbers: types by the numbers of their nodes, and what follows as tables of bits.
use Rattle.std.specs.Prelude.{ℕ, ◌+◌, ◌-◌, ◌*◌, Bool, ◌&&◌, ◌||◌, not, List, [], map, eqb, ltb}
use Rattle.site.specs.declared.fact.Fact.{Fact}
use Rattle.site.specs.Kinds.{of_concept}
use Rattle.site.specs.Codes.{node_code, role_code}
use Rattle.site.specs.Lists.{any, first}
use Rattle.bundle.specs.Bundle.{facts_of}
use Rattle.bundle.specs.declared.facts.Facts.{Facts}
use Rattle.steps.specs.Tables.{Follows}
use Rattle.tables.specs.Bits.{has, bit_of}
use Rattle.clashes.specs.Types.{Typ as SaidTyp, types_of, itself}
use Rattle.clashes.specs.Marks.{marked}
use Rattle.clashes.specs.declared.types.Typ.{Typ}

-- a type by its node's number
abbrev pub code : SaidTyp → Typ
code x = record { node = node_code x.node; from = x.from; to = x.to }

-- the types of a fact, by their nodes' numbers
unfoldable pub coded_types : Fact → List Typ
coded_types f = map code (types_of itself f)

-- a word's bit for a basic role
unfoldable pub has_role : ℕ → ℕ → Bool
has_role word q = ltb q 64 && bit_of word q

-- what follows, as the tables say it: a table of what is included, one of what is excluded, and a word of the functional basic roles
abbrev pub bits_follow : List ℕ → List ℕ → ℕ → Follows
bits_follow included excluded functional =
    record {
      is_included = λ x y. has included (node_code x) (node_code y);
      is_excluded = λ x y. has excluded (node_code x) (node_code y);
      is_functional = λ q. has_role functional (role_code q);
    }

-- two types at one place that a table relates
abbrev pub related_at : List ℕ → Typ → Typ → Bool
related_at table x y = eqb x.from y.from && eqb x.to y.to && has table x.node y.node

-- a type that a table relates to some type of a fact
abbrev pub relates_coded : List ℕ → Fact → Typ → Bool
relates_coded table g x = any (related_at table x) (coded_types g)

-- two facts of one role that a functional direction of it forbids together
unfoldable pub split_coded : ℕ → Fact → Fact → Bool
split_coded functional f g =
    not (of_concept f) && not (of_concept g) && eqb f.predicate g.predicate
    && (has_role functional (2 * (f.predicate - 64)) && eqb f.subject g.subject && not (eqb f.object g.object)
    || has_role functional (2 * (f.predicate - 64) + 1) && eqb f.object g.object && not (eqb f.subject g.subject))

-- two facts that have no thing in common
unfoldable pub far : Fact → Fact → Bool
far f g =
    not (eqb f.subject g.subject) && not (eqb f.subject g.object) && not (eqb f.object g.subject)
    && not (eqb f.object g.object)

-- a fact one of whose types, at the asked place, is included in the asked node
abbrev pub supports_coded : List ℕ → Typ → Fact → Bool
supports_coded included asked f = any (λ x. related_at included x asked) (coded_types f)

-- the lowest-numbered kept fact that supports; else the count
unfoldable pub support_in : List ℕ → List ℕ → ℕ → List ℕ → Facts → Typ → ℕ
support_in included excluded functional bundle facts asked =
    first facts.count
    (λ f. marked itself (bits_follow [] excluded functional) (facts_of bundle facts) 0 f && supports_coded included asked f)
    0
    (facts_of bundle facts)
