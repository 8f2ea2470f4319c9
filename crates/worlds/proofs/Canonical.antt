-- The canonical world of facts that do not contradict each other: the chase of what they tell, where a partner that is there already
-- blocks. It is a world of the rules and the facts, and of named things it says no more than the facts tell.
use Prim.Native.Nat.{ℕ}
use mathlib.Core.Path.{◌≡◌, refl, ap, subst}
use mathlib.Core.Bool.{Bool, true, false, ◌&&◌}
use mathlib.Core.List.{List, Memᴰ}
use lib.Dec.{eqb}
use borrow.Author.Tests.{eqb-true, eq-eqb}
use Rattle.site.specs.declared.fact.Fact.{Fact}
use Rattle.site.specs.Kinds.{BasicRole, BasicConcept, Site, turned, of_concept}
use Rattle.site.specs.Kinds.Node.{concept, role}
use Rattle.site.specs.Lists.{any}
use Rattle.site.proofs.Lists.{any_found, any_of, and_left, and_right, and_both}
use Rattle.rules.specs.Lawful.{Lawful}
use Rattle.steps.specs.Tables.{Follows}
use Rattle.steps.specs.Decides.{Decides}
use Rattle.clashes.specs.Types.{Typ, types_of}
use Rattle.clashes.proofs.OfTypes.{TypeOf, listed_of, of_listed}
use Rattle.clashes.proofs.OfTypes.TypeOf.{is_a, joins}
use Rattle.worlds.specs.Worlds.{World, Names, Joins, Is, Says, Holds, WorldOf}
use Rattle.worlds.proofs.Chase.{Element, Link, Blocks, Partnered, chased, joins_link, is_has, obeys_all}
use Rattle.worlds.proofs.Chase.Element.{device, child}
use Rattle.worlds.proofs.Chase.Link.{told, up}
use Rattle.worlds.proofs.Told.{Told, Peaceful, Spoken, type_told, told_closed, told_harmless}

module _ (ρ : ℕ → ℕ) (s : Site) (t : Follows) (facts : List Fact) where
  -- a type from a thing that is included in a basic role
  abbrev pub partner_by : ℕ → BasicRole → Typ → Bool
  partner_by a p x = t.is_included x.node (role p) && eqb x.from a

  -- a partner by p is there already: the facts tell of one, or the parent is one
  abbrev pub there : Element → BasicRole → Bool
  there (device a) p = any (λ f. any (partner_by a p) (types_of ρ f)) facts
  there (child u q) p = t.is_included (role (turned q)) (role p)

  abbrev pub canonical : World
  canonical = chased s (Told ρ s facts) there ρ

  module _ (law : Lawful s) (d : Decides s t) where
    partnered : Partnered s (Told ρ s facts) there
    partnered (device a) p e h =
        let k = any_found (λ f. any (partner_by a p) (types_of ρ f)) facts e in
        let l = any_found (partner_by a p) (types_of ρ k.one) k.passes in
        let x = l.one in
        let at_a = eqb-true x.from a (and_right (t.is_included x.node (role p)) _ l.passes) in (
          device x.to,
          told
              (record {
                fact = k.one;
                member = k.within;
                node = x.node;
                of = subst (λ (n : ℕ). TypeOf ρ k.one x.node n x.to) at_a (listed_of l.within);
                below = (d.included x.node (role p)).0 (and_left (t.is_included x.node (role p)) _ l.passes);
              }),
        )
    partnered (child u q) p e h = (u, up h.0 h.1 ((d.included (role (turned q)) (role p)).0 e))

    by_told : {q : BasicRole} {a b : ℕ} → Told ρ s facts (role q) a b → there (device a) q ≡ true
    by_told {q} {a} {b} r =
        any_of (λ f. any (partner_by a q) (types_of ρ f)) r.member
        (any_of (partner_by a q) (of_listed r.of)
        (and_both (t.is_included r.node (role q)) (eqb a a) ((d.included r.node (role q)).1 r.below) (eq-eqb a a refl)))

    blocks : Blocks s (Told ρ s facts) there
    blocks = record { by_told = by_told; by_parent = λ u {p} {q} i. (d.included (role (turned p)) (role q)).1 i }

    canonical_names : Names ρ canonical
    canonical_names = record { different = λ a b m n e. device_is e; alike = λ a b e. ap device e }
      where
        device_is : {a b : ℕ} → device a ≡ device b → a ≡ b
        device_is e = cc

    canonical_holds : ((f : Fact) → Memᴰ f facts → Spoken s f) → (f : Fact) → Memᴰ f facts → Holds canonical f
    canonical_holds spoken f m = go (of_concept f) refl
      where
        go : (b : Bool) → of_concept f ≡ b → Says canonical b f
        go true e = type_told ρ s facts (spoken f m) m (is_a e)
        go false e = told (type_told ρ s facts (spoken f m) m (joins e))

    pub canonical_world : ((f : Fact) → Memᴰ f facts → Spoken s f) → Peaceful ρ s facts → WorldOf ρ s facts canonical
    canonical_world spoken peace =
        record {
          names = canonical_names;
          obeys =
              obeys_all s (Told ρ s facts) there law (told_closed ρ s facts law) (told_harmless ρ s facts law peace) ρ partnered blocks;
          holds = canonical_holds spoken;
        }

    pub is_told : (b : BasicConcept) (a : ℕ) → Is canonical b (device a) → Told ρ s facts (concept b) a a
    is_told b a h = is_has s (Told ρ s facts) there law (told_closed ρ s facts law) ρ b (device a) h

    named_link : {q : BasicRole} {a b : ℕ} → Link s (Told ρ s facts) there q (device a) (device b) → Told ρ s facts (role q) a b
    named_link (told r) = r

    pub joins_told : (q : BasicRole) (a b : ℕ) → Joins canonical q (device a) (device b) → Told ρ s facts (role q) a b
    joins_told q a b h =
        named_link (joins_link s (Told ρ s facts) there law (told_closed ρ s facts law) ρ q (device a) (device b) h)
