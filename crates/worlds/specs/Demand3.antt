-- Demand 3, whole: worlds decide. The marks, the kept facts and the answers are the very definitions that the contracts cite.
use Rattle.std.specs.Prelude.{ℕ, ◌≤◌, ◌<◌, ◌≡◌, true, ◌↔◌, length}
use mathlib.Core.List.{List, [], ◌∷◌, Memᴰ}
use Rattle.std.specs.Prelude.{Ok}
use Rattle.site.specs.declared.fact.Fact.{Fact}
use Rattle.site.specs.Kinds.{Site}
use Rattle.site.specs.Kinds.Node.{concept, role}
use Rattle.site.specs.Codes.{concept_of, role_of, concept_declared, role_declared}
use Rattle.site.specs.Limits.{most_thing}
use Rattle.rule.specs.declared.head.Head.{Head}
use Rattle.rules.specs.RuleFile.{check_rules, site_of}
use Rattle.bundle.specs.Bundle.{read_bundle}
use Rattle.steps.specs.Tables.{follows_of}
use Rattle.clashes.specs.Types.{itself, typ}
use Rattle.clashes.specs.Marks.{mark, partner, kept, support}
use Rattle.worlds.specs.Worlds.{Is, Joins, Consistent, LeftOut, LowestConflict, Always}

-- the statement for a site's rules and facts
pub record SiteDecided (h : Head) (s : Site) (facts : List Fact) : Type 1 where
  -- "A fact is dropped exactly if some consistent set of the bundle's facts, to which no further fact of the bundle can be added consistently, leaves it
  -- out."
  pub dropped : (f : Fact) → Memᴰ f facts → (mark itself (follows_of s) facts f ≡ 0 → ⊥) ↔ LeftOut itself s facts f
  -- "Alone": no world by itself
  pub alone : (f : Fact) → Memᴰ f facts → (mark itself (follows_of s) facts f ≡ 1) ↔ (Consistent itself s (f ∷ []) → ⊥)
  -- "disputed": the partner is the lowest-numbered fact with which it has no world, though each has one
  pub partner_of : (f : Fact) → Memᴰ f facts → mark itself (follows_of s) facts f ≡ 2 → LowestConflict itself s facts f (partner itself (follows_of s) facts f)
  -- "kept facts are consistent"
  pub consistent : Consistent itself s (kept itself (follows_of s) facts)
  -- "a question is answered yes exactly if it holds in every world of the rules and the kept facts", for "B of a"
  pub of_thing : (code a : ℕ) → concept_declared h.concepts h.roles code ≡ true → a ≤ most_thing
      → (support itself (follows_of s) facts (typ (concept (concept_of code)) a a) < length facts)
      ↔ Always itself s (kept itself (follows_of s) facts) (λ w. Is w (concept_of code) (w.thing a))
  -- the same for "q from a to b"
  pub of_pair : (code a b : ℕ) → role_declared h.roles code ≡ true → a ≤ most_thing → b ≤ most_thing
      → (support itself (follows_of s) facts (typ (role (role_of code)) a b) < length facts)
      ↔ Always itself s (kept itself (follows_of s) facts) (λ w. Joins w (role_of code) (w.thing a) (w.thing b))

-- "Accepted" is accepted by the readers' definitions; nothing else is assumed
abbrev pub Demand3 : Type 1
Demand3 =
    (rules bundle : List ℕ) (h : Head) (facts : List Fact)
    → check_rules rules ≡ Ok h
    → read_bundle h bundle ≡ Ok facts
    → SiteDecided h (site_of rules h) facts
