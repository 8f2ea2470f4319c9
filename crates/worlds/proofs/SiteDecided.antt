-- Demand 3 for lawful rules and facts, given that the tables decide what follows: the three laws, over any map of device numbers and any
-- tests that decide, and then where each device number stands for itself.
use Prim.Native.Nat.{ℕ, ◌<◌}
use mathlib.Core.Path.{◌≡◌, sym, subst, subst₂}
use mathlib.Core.Bool.{true}
use mathlib.Core.Logic.{◌↔◌}
use mathlib.Core.List.{List, [], ◌∷◌, Memᴰ}
use lib.ListN.{length}
use Rattle.site.specs.declared.fact.Fact.{Fact}
use Rattle.site.specs.Kinds.{BasicRole, BasicConcept, Site}
use Rattle.site.specs.Kinds.Node.{concept, role}
use Rattle.site.specs.Codes.{concept_of, role_of, predicate_declared}
use Rattle.rule.specs.declared.head.Head.{Head}
use Rattle.rules.specs.Lawful.{Lawful}
use Rattle.bundle.specs.Bundle.{}
use Rattle.std.specs.Prelude.{Option}
use Rattle.bundle.specs.Lawful.{LawfulFact, LawfulFrom, LawfulFacts}
use Rattle.bundle.specs.Lawful.LawfulFrom.{done, next}
use Rattle.steps.specs.Tables.{Follows, follows_of}
use Rattle.steps.specs.Decides.{Decides}
use Rattle.clashes.specs.Types.{itself, typ}
use Rattle.clashes.specs.Marks.{mark, partner, kept, support}
use Rattle.worlds.specs.Worlds.{Is, Joins, Consistent, LeftOut, LowestConflict, Always}
use Rattle.worlds.specs.Demand3.{SiteDecided}
use Rattle.worlds.proofs.Conflicts.{alone_worldless, partner_conflict}
use Rattle.worlds.proofs.Consistency.{Fit, AllFit}
use Rattle.worlds.proofs.Dropped.{dropped_left_out, kept_consistent}
use Rattle.worlds.proofs.Answered.{of_thing_always, of_pair_always}

-- worlds decide the marks, the kept facts and the answers that some tests give, ρ giving the number that stands for a device number
pub record DecidedOver (ρ : ℕ → ℕ) (s : Site) (t : Follows) (facts : List Fact) : Type 1 where
  pub dropped : (f : Fact) → Memᴰ f facts → (mark ρ t facts f ≡ 0 → ⊥) ↔ LeftOut ρ s facts f
  pub alone : (f : Fact) → Memᴰ f facts → (mark ρ t facts f ≡ 1) ↔ (Consistent ρ s (f ∷ []) → ⊥)
  pub partner_of : (f : Fact) → Memᴰ f facts → mark ρ t facts f ≡ 2 → LowestConflict ρ s facts f (partner ρ t facts f)
  pub consistent : Consistent ρ s (kept ρ t facts)
  pub of_thing : (c : BasicConcept) (a : ℕ)
      → (support ρ t facts (typ (concept c) (ρ a) (ρ a)) < length facts) ↔ Always ρ s (kept ρ t facts) (λ w. Is w c (w.thing a))
  pub of_pair : (q : BasicRole) (a b : ℕ)
      → (support ρ t facts (typ (role q) (ρ a) (ρ b)) < length facts)
      ↔ Always ρ s (kept ρ t facts) (λ w. Joins w q (w.thing a) (w.thing b))

pub decided_over : (ρ : ℕ → ℕ) (s : Site) (t : Follows) (facts : List Fact) → Lawful s → Decides s t → AllFit s facts → DecidedOver ρ s t facts
decided_over ρ s t facts law d fit =
    record {
      dropped = dropped_left_out ρ s t law d facts fit;
      alone = alone_worldless ρ s t law d facts fit;
      partner_of = partner_conflict ρ s t law d facts fit;
      consistent = kept_consistent ρ s t law d facts fit;
      of_thing = of_thing_always ρ s t law d facts fit;
      of_pair = of_pair_always ρ s t law d facts fit;
    }

-- lawful facts fit the rules whose codes their head declares
fact_fit : (h : Head) (s : Site) → h.concepts ≡ s.concepts → h.roles ≡ s.roles → {f : Fact} → LawfulFact h f → Fit s f
fact_fit h s c r {f} l =
    record {
      spoken = subst₂ (λ (m n : ℕ). predicate_declared m n f.predicate ≡ true) c r l.known;
      near = record { subject_within = l.subject_within; object_within = l.object_within };
    }

pub facts_fit : (h : Head) (s : Site) → h.concepts ≡ s.concepts → h.roles ≡ s.roles → {last : Option Fact} {facts : List Fact}
    → LawfulFrom h last facts → AllFit s facts
facts_fit h s c r done f m = elim m [ ]
facts_fit h s c r (next l a ls) f (Memᴰ.head e) = subst (λ (g : Fact). Fit s g) (sym e) (fact_fit h s c r l)
facts_fit h s c r (next l a ls) f (Memᴰ.tail m) = facts_fit h s c r ls f m

pub site_decided : (h : Head) (s : Site) (facts : List Fact) → h.concepts ≡ s.concepts → h.roles ≡ s.roles → Lawful s
    → Decides s (follows_of s) → LawfulFacts h facts → SiteDecided h s facts
site_decided h s facts c r law d l =
    let k = decided_over itself s (follows_of s) facts law d (facts_fit h s c r l.lawful) in
    record {
      dropped = k.dropped;
      alone = k.alone;
      partner_of = k.partner_of;
      consistent = k.consistent;
      of_thing = λ code a known within. k.of_thing (concept_of code) a;
      of_pair = λ code a b known first second. k.of_pair (role_of code) a b;
    }
