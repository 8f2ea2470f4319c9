-- Soundness: in a world that obeys the rules, what is included is included and what is excluded is disjoint; step 8 by moving along the
-- role. So a fact's types hold where the fact holds, and facts that contradict each other hold together in no world.
use Prim.Native.Nat.{ℕ, ◌≤◌}
use mathlib.Core.Path.{◌≡◌, refl, sym, ◌∙◌, subst}
use mathlib.Core.Bool.{Bool}
use mathlib.Core.List.{Memᴰ}
use Rattle.site.specs.declared.fact.Fact.{Fact}
use Rattle.site.specs.Kinds.{BasicRole, Node, Rule, Site, turned}
use Rattle.site.specs.Kinds.BasicRole.{forward, inverse}
use Rattle.site.specs.Kinds.Node.{concept, role}
use Rattle.site.specs.Kinds.Rule.{included, disjoint, role_included, role_disjoint, functional}
use Rattle.site.specs.Limits.{most_thing}
use Rattle.steps.specs.Steps.{Included, Excluded, OneOf}
use Rattle.steps.specs.Steps.SaysIncluded.{kind_0, kind_2}
use Rattle.steps.specs.Steps.SaysExcluded.{kind_1, kind_3}
use Rattle.steps.specs.Steps.Included.{step_1, step_2, step_3, step_4}
use Rattle.steps.specs.Steps.Excluded.{step_5, step_6, step_7, step_8}
use Rattle.clashes.proofs.OfTypes.{TypeOf, Against}
use Rattle.clashes.proofs.OfTypes.TypeOf.{is_a, has, had, joins, joined}
use Rattle.clashes.proofs.OfTypes.Against.{jars, splits}
use Rattle.worlds.specs.Worlds.{World, Names, Joins, Is, Obeys, Says, Holds}

-- a node holds of an ordered pair; a concept, of its first thing
abbrev pub At : (w : World) → Node → w.Thing → w.Thing → Type 0
At w (concept b) u v = Is w b u
At w (role q) u v = Joins w q u v

module _ (w : World) where
  pub joins_back : (q : BasicRole) (u v : w.Thing) → Joins w (turned q) u v → Joins w q v u
  joins_back (forward j) u v h = h
  joins_back (inverse j) u v h = h

  pub joins_turn : (q : BasicRole) (u v : w.Thing) → Joins w q v u → Joins w (turned q) u v
  joins_turn (forward j) u v h = h
  joins_turn (inverse j) u v h = h

  -- step 8: one of the three is empty, so no pair is joined; some pair is joined where one of the three holds
  unjoined : {q : BasicRole} {x : Node} → OneOf q x → ((u v : w.Thing) → At w x u v → ⊥) → (u v : w.Thing) → Joins w q u v → ⊥
  unjoined OneOf.itself n u v j = n u v j
  unjoined OneOf.has n u v j = n u u (v, j)
  unjoined {q} OneOf.has_inverse n u v j = n v v (u, joins_turn q v u j)

  some_joined : {q : BasicRole} {x : Node} → OneOf q x → (u v : w.Thing) → At w x u v → (a : w.Thing) × (b : w.Thing) × Joins w q a b
  some_joined OneOf.itself u v h = (u, v, h)
  some_joined OneOf.has u v h = (u, h.0, h.1)
  some_joined {q} OneOf.has_inverse u v h = (h.0, u, joins_back q u h.0 h.1)

module _ (s : Site) (w : World) (obeys : (r : Rule) → Memᴰ r s.rules → Obeys w r) where
  pub included_holds : {x y : Node} → Included s x y → (u v : w.Thing) → At w x u v → At w y u v
  included_holds (Included.by_rule {r = included b c} m kind_0) u v h = obeys (included b c) m u h
  included_holds (Included.by_rule {r = role_included p q} m kind_2) u v h = obeys (role_included p q) m u v h
  included_holds (Included.by_rule {r = disjoint _ _} {y = y} m says) u v h = elim says [ ]
  included_holds (Included.by_rule {r = role_disjoint _ _} {y = y} m says) u v h = elim says [ ]
  included_holds (Included.by_rule {r = functional _} {y = y} m says) u v h = elim says [ ]
  included_holds (step_1 e) u v h = h
  included_holds (step_2 i k) u v h = included_holds k u v (included_holds i u v h)
  included_holds (step_3 {p = p} {q = q} i) u v h = joins_turn w q u v (included_holds i v u (joins_back w p u v h))
  included_holds (step_4 i) u v h = (h.0, included_holds i u h.0 h.1)

  pub excluded_never : {x y : Node} → Excluded s x y → (u v : w.Thing) → At w x u v → At w y u v → ⊥
  excluded_never (Excluded.by_rule {r = disjoint b c} m kind_1) u v h k = obeys (disjoint b c) m u h k
  excluded_never (Excluded.by_rule {r = role_disjoint p q} m kind_3) u v h k = obeys (role_disjoint p q) m u v h k
  excluded_never (Excluded.by_rule {r = included _ _} {y = y} m says) u v h k = elim says [ ]
  excluded_never (Excluded.by_rule {r = role_included _ _} {y = y} m says) u v h k = elim says [ ]
  excluded_never (Excluded.by_rule {r = functional _} {y = y} m says) u v h k = elim says [ ]
  excluded_never (step_5 e) u v h k = excluded_never e u v k h
  excluded_never (step_6 i e) u v h k = excluded_never e u v (included_holds i u v h) k
  excluded_never (step_7 {p = p} {q = q} e) u v h k = excluded_never e v u (joins_back w p u v h) (joins_back w q u v k)
  excluded_never (step_8 one other e) u v h k =
      let j = some_joined w other u v h in
      unjoined w one (λ a b z. excluded_never e a b z z) j.0 j.1 j.2

-- a fact about things within the limit
pub record Near (f : Fact) : Type 0 where
  pub subject_within : f.subject ≤ most_thing
  pub object_within : f.object ≤ most_thing

-- a node holds of the things of two device numbers that stand for a and b
pub record Shown (ρ : ℕ → ℕ) (w : World) (x : Node) (a b : ℕ) : Type 0 where
  pub from : ℕ
  pub to : ℕ
  pub from_is : ρ from ≡ a
  pub to_is : ρ to ≡ b
  pub to_within : to ≤ most_thing
  pub holds : At w x (w.thing from) (w.thing to)

module _ {ρ : ℕ → ℕ} (w : World) where
  pub type_shown : {f : Fact} {x : Node} {a b : ℕ} → Near f → Holds w f → TypeOf ρ f x a b → Shown ρ w x a b
  type_shown {f} n h (is_a e) =
      record {
        from = f.subject;
        to = f.subject;
        from_is = refl;
        to_is = refl;
        to_within = n.subject_within;
        holds = subst (λ (b : Bool). Says w b f) e h;
      }
  type_shown {f} n h (has e) =
      record {
        from = f.subject;
        to = f.subject;
        from_is = refl;
        to_is = refl;
        to_within = n.subject_within;
        holds = (w.thing f.object, subst (λ (b : Bool). Says w b f) e h);
      }
  type_shown {f} n h (had e) =
      record {
        from = f.object;
        to = f.object;
        from_is = refl;
        to_is = refl;
        to_within = n.object_within;
        holds = (w.thing f.subject, subst (λ (b : Bool). Says w b f) e h);
      }
  type_shown {f} n h (joins e) =
      record {
        from = f.subject;
        to = f.object;
        from_is = refl;
        to_is = refl;
        to_within = n.object_within;
        holds = subst (λ (b : Bool). Says w b f) e h;
      }
  type_shown {f} n h (joined e) =
      record {
        from = f.object;
        to = f.subject;
        from_is = refl;
        to_is = refl;
        to_within = n.subject_within;
        holds = subst (λ (b : Bool). Says w b f) e h;
      }

  -- what is shown holds of the things of any device numbers that stand for a and b
  pub shown_at : Names ρ w → {x : Node} {a b : ℕ} → Shown ρ w x a b → (u v : ℕ) → ρ u ≡ a → ρ v ≡ b → At w x (w.thing u) (w.thing v)
  shown_at n {x} h u v p q =
      subst (λ (z : w.Thing). At w x z (w.thing v)) (n.alike h.from u (h.from_is ∙ sym p))
      (subst (λ (z : w.Thing). At w x (w.thing h.from) z) (n.alike h.to v (h.to_is ∙ sym q)) h.holds)

  pub against_never : (s : Site) → ((r : Rule) → Memᴰ r s.rules → Obeys w r) → Names ρ w → {f g : Fact} → Near f → Near g
      → Holds w f → Holds w g → Against ρ s f g → ⊥
  against_never s obeys n near-f near_g h k (jars i j e) =
      let x = type_shown near-f h i in
      let y = type_shown near_g k j in
      excluded_never s w obeys e (w.thing x.from) (w.thing x.to) x.holds (shown_at n y x.from x.to x.from_is x.to_is)
  against_never s obeys n near-f near_g h k (splits {q = q} i j m apart) =
      let x = type_shown near-f h i in
      let y = type_shown near_g k j in
      let same =
      obeys (functional q) m (w.thing x.from) (w.thing x.to) (w.thing y.to) x.holds
      (shown_at n y x.from y.to x.from_is y.to_is) in
      apart (sym x.to_is ∙ n.different x.to y.to x.to_within y.to_within same ∙ y.to_is)
