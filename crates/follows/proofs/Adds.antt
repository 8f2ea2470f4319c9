-- What adding one pair after the other does.
use Prim.Native.Nat.{ℕ, suc, ◌+◌, ◌*◌, ◌%◌, ◌^◌, ◌<◌, ◌≤◌}
use mathlib.Core.Path.{◌≡◌, refl, sym, ap, subst, ◌∙◌}
use mathlib.Core.Bool.{true}
use mathlib.Core.Logic.{◌⊎◌, inl, inr}
use mathlib.Core.List.Memᴰ
use mathlib.Core.List.{List, [], ◌∷◌, ◌++◌, append-nil, append_assoc, Memᴰ}
use native.Mathlib.Omega.{arith}
use native.Mathlib.Numerals.{add-one}
use lib.Bits.{bit_or}
use lib.Pow.{shl_exact}
use borrow.Author.Rules.{rules}
use Rattle.site.specs.Kinds.{BasicRole, Node, Rule, turned}
use Rattle.site.specs.Kinds.BasicRole.{forward, inverse}
use Rattle.site.specs.Kinds.BasicConcept.{some}
use Rattle.site.specs.Kinds.Node.{concept, role}
use Rattle.site.specs.Kinds.Rule.{included, disjoint, role_included, role_disjoint, functional}
use Rattle.site.specs.Codes.{role_of, role_code, node_code}
use Rattle.site.specs.Lists.{up_to, each}
use Rattle.site.specs.Told.{basic_role_told, basic_concept_told, rule_told}
use Rattle.site.specs.declared.nodes.Role.{Role}
use Rattle.site.specs.declared.nodes.BasicRole.{BasicRole as RoleCode}
use Rattle.site.specs.declared.nodes.BasicConcept.{BasicConcept as ConceptCode}
use Rattle.site.specs.declared.rule.Rule.{Rule as RuleCase}
use Rattle.site.specs.declared.rule.Rule.TheVariants.{Included, Disjoint, RoleIncluded, RoleDisjoint, Functional}
use Rattle.site.proofs.OfCodes.{role_code_lem}
use Rattle.site.proofs.Lists.{or_cases, or_left, or_right}
use Rattle.steps.specs.Tables.{Pair, arrows_of}
use Rattle.tables.specs.Bits.{bit_of, Has, Added, CameAdded}
use Rattle.tables.specs.Bits.CameAdded.{old_one, new_one}
use Rattle.tables.proofs.Words.{bit_or_lem, bit_same, bit_other}
use Rattle.follows.specs.Adding.{CamePair, AddedAll, role_arrows, some_arrows, in_both_orders, exclusions_of, ring, rings, CameFunctional, FunctionalAdded}
use Rattle.follows.specs.Adding.CamePair.{at_once, of_pair}
use Rattle.follows.specs.Adding.CameFunctional.{at_once as was, of_rule}
use Rattle.follows.proofs.Numbers.{role_of_code}

-- no pair, one more pair, more pairs
pub added_none : (t : List ℕ) → AddedAll [] t t
added_none t = record { stays = λ u v h. h; comes = λ a m. absurd (Memᴰ.not-nil m); came = λ u v h. at_once h }

pub added_one : (a : Pair) (l : List Pair) (old mid new : List ℕ) (x y : ℕ) → Added old mid x y → x ≡ node_code a.left → y ≡ node_code a.right → AddedAll l mid new → AddedAll (a ∷ l) old new
added_one a l old mid new x y p e f q =
    record { stays = λ u v h. q.stays u v (p.stays u v h); comes = comes_of; came = λ u v h. back u v (q.came u v h) }
  where
    there : node_code a.left < 192 → node_code a.right < 192 → Has new (node_code a.left) (node_code a.right)
    there h k = q.stays _ _ (subst (λ z. Has mid z (node_code a.right)) e (subst (λ z. Has mid x z) f (p.comes (omega arith) (omega arith))))

    comes_of : (b : Pair) → Memᴰ b (a ∷ l) → node_code b.left < 192 → node_code b.right < 192 → Has new (node_code b.left) (node_code b.right)
    comes_of b (Memᴰ.head z) =
        subst (λ w. node_code w.left < 192 → node_code w.right < 192 → Has new (node_code w.left) (node_code w.right)) (sym z) there
    comes_of b (Memᴰ.tail m) = q.comes b m

    first : (u v : ℕ) → CameAdded old x y u v → CamePair (a ∷ l) old u v
    first u v (old_one h) = at_once h
    first u v (new_one g h) = of_pair a (Memᴰ.head refl) (g ∙ e) (h ∙ f)

    back : (u v : ℕ) → CamePair l mid u v → CamePair (a ∷ l) old u v
    back u v (at_once h) = first u v (p.came u v h)
    back u v (of_pair b m g h) = of_pair b (Memᴰ.tail m) g h

pub added_more : (k l : List Pair) (old mid new : List ℕ) → AddedAll k old mid → AddedAll l mid new → AddedAll (k ++ l) old new
added_more k l old mid new p q =
    record { stays = λ u v h. q.stays u v (p.stays u v h); comes = λ a m. comes_of a (Memᴰ.append_cases k m); came = λ u v h. back u v (q.came u v h) }
  where
    comes_of : (a : Pair) → Memᴰ a k ⊎ Memᴰ a l → node_code a.left < 192 → node_code a.right < 192 → Has new (node_code a.left) (node_code a.right)
    comes_of a (inl m) h i = q.stays _ _ (p.comes a m h i)
    comes_of a (inr m) h i = q.comes a m h i

    first : (u v : ℕ) → CamePair k old u v → CamePair (k ++ l) old u v
    first u v (at_once h) = at_once h
    first u v (of_pair a m g h) = of_pair a (Memᴰ.append_left l m) g h

    back : (u v : ℕ) → CamePair l mid u v → CamePair (k ++ l) old u v
    back u v (at_once h) = first u v (p.came u v h)
    back u v (of_pair a m g h) = of_pair a (Memᴰ.append_right k m) g h

-- one pair alone, two and four
module _ (a : Pair) (t₀ t₁ : List ℕ) (x y : ℕ) (p : Added t₀ t₁ x y) (e : x ≡ node_code a.left) (f : y ≡ node_code a.right) where
  added_last : AddedAll (a ∷ []) t₀ t₁
  added_last = added_one a [] t₀ t₁ t₁ x y p e f (added_none t₁)

  module _ (b : Pair) (t₂ : List ℕ) (z w : ℕ) (q : Added t₁ t₂ z w) (g : z ≡ node_code b.left) (h : w ≡ node_code b.right) where
    added_two : AddedAll (a ∷ b ∷ []) t₀ t₂
    added_two = added_one a (b ∷ []) t₀ t₁ t₂ x y p e f (added_one b [] t₁ t₂ t₂ z w q g h (added_none t₂))

-- the rules' arrows
module _ (t₀ t₁ : List ℕ) where
  pub arrows_included : (rule : RuleCase) (b c : ConceptCode) (x y : ℕ) → rule ≡ Included b c → x ≡ node_code (concept (basic_concept_told b)) → y ≡ node_code (concept (basic_concept_told c))
      → Added t₀ t₁ x y → AddedAll (arrows_of (rule_told rule)) t₀ t₁
  arrows_included rule b c x y z e f p = rw z (added_last (record { left = concept (basic_concept_told b); right = concept (basic_concept_told c) }) t₀ t₁ x y p e f)

  pub arrows_role : (rule : RuleCase) (p q : RoleCode) → rule ≡ RoleIncluded p q → AddedAll (arrows_of (role_included (basic_role_told p) (basic_role_told q))) t₀ t₁ → AddedAll (arrows_of (rule_told rule)) t₀ t₁
  arrows_role rule p q z h = rw z h

  pub exclusions_disjoint : (rule : RuleCase) (b c : ConceptCode) → rule ≡ Disjoint b c
      → AddedAll (in_both_orders (record { left = concept (basic_concept_told b); right = concept (basic_concept_told c) })) t₀ t₁ → AddedAll (exclusions_of (rule_told rule)) t₀ t₁
  unfolding each
  exclusions_disjoint rule b c z h = rw z h

  pub exclusions_role : (rule : RuleCase) (p q : RoleCode) → rule ≡ RoleDisjoint p q → AddedAll (exclusions_of (role_disjoint (basic_role_told p) (basic_role_told q))) t₀ t₁ → AddedAll (exclusions_of (rule_told rule)) t₀ t₁
  exclusions_role rule p q z h = rw z h

module _ (t : List ℕ) (rule : RuleCase) where
  pub no_arrows_1 : (b c : ConceptCode) → rule ≡ Disjoint b c → AddedAll (arrows_of (rule_told rule)) t t
  no_arrows_1 b c z = rw z (added_none t)

  pub no_arrows_3 : (p q : RoleCode) → rule ≡ RoleDisjoint p q → AddedAll (arrows_of (rule_told rule)) t t
  no_arrows_3 p q z = rw z (added_none t)

  pub no_arrows_4 : (q : RoleCode) → rule ≡ Functional q → AddedAll (arrows_of (rule_told rule)) t t
  no_arrows_4 q z = rw z (added_none t)

  pub no_exclusions_0 : (b c : ConceptCode) → rule ≡ Included b c → AddedAll (exclusions_of (rule_told rule)) t t
  unfolding each
  no_exclusions_0 b c z = rw z (added_none t)

  pub no_exclusions_2 : (p q : RoleCode) → rule ≡ RoleIncluded p q → AddedAll (exclusions_of (rule_told rule)) t t
  unfolding each
  no_exclusions_2 p q z = rw z (added_none t)

  pub no_exclusions_4 : (q : RoleCode) → rule ≡ Functional q → AddedAll (exclusions_of (rule_told rule)) t t
  unfolding each
  no_exclusions_4 q z = rw z (added_none t)

-- two nodes' numbers, where the node is known by another name
pub in_both_orders_lem : (t₀ t₁ t₂ : List ℕ) (a b : Node) (x y z w : ℕ) → Added t₀ t₁ x y → x ≡ node_code a → y ≡ node_code b → Added t₁ t₂ z w → z ≡ node_code b → w ≡ node_code a
    → AddedAll (in_both_orders (record { left = a; right = b })) t₀ t₂
in_both_orders_lem t₀ t₁ t₂ a b x y z w p e f q g h =
    added_two (record { left = a; right = b }) t₀ t₁ x y p e f (record { left = b; right = a }) t₂ z w q g h

-- the two arrows of roles, and the two of partners
module _ (t₀ t₁ t₂ : List ℕ) (p q p' q' : RoleCode) (back_p : basic_role_told p' ≡ turned (basic_role_told p)) (back-q : basic_role_told q' ≡ turned (basic_role_told q)) (x y z w : ℕ)
    (a : Added t₀ t₁ x y) (b : Added t₁ t₂ z w) where
  pub two_roles : x ≡ node_code (role (basic_role_told p)) → y ≡ node_code (role (basic_role_told q)) → z ≡ node_code (role (basic_role_told p')) → w ≡ node_code (role (basic_role_told q'))
      → AddedAll (role_arrows (basic_role_told p) (basic_role_told q)) t₀ t₂
  two_roles e f g h =
      let u = basic_role_told p in
      let v = basic_role_told q in
      added_two (record { left = role u; right = role v }) t₀ t₁ x y a e f (record { left = role (turned u); right = role (turned v) }) t₂ z w b
      (g ∙ ap (λ r. node_code (role r)) back_p)
      (h ∙ ap (λ r. node_code (role r)) back-q)

  pub two_somes : x ≡ node_code (concept (some (basic_role_told p))) → y ≡ node_code (concept (some (basic_role_told q))) → z ≡ node_code (concept (some (basic_role_told p')))
      → w ≡ node_code (concept (some (basic_role_told q'))) → AddedAll (some_arrows (basic_role_told p) (basic_role_told q)) t₀ t₂
  two_somes e f g h =
      let u = basic_role_told p in
      let v = basic_role_told q in
      added_two (record { left = concept (some u); right = concept (some v) }) t₀ t₁ x y a e f (record { left = concept (some (turned u)); right = concept (some (turned v)) }) t₂ z w b
      (g ∙ ap (λ r. node_code (concept (some r))) back_p)
      (h ∙ ap (λ r. node_code (concept (some r))) back-q)

module _ (t₀ t₁ t₂ : List ℕ) where
  pub role_arrows_lem : (p q : BasicRole) → AddedAll (role_arrows p q) t₀ t₁ → AddedAll (some_arrows p q) t₁ t₂ → AddedAll (arrows_of (role_included p q)) t₀ t₂
  role_arrows_lem p q a b = added_more (role_arrows p q) (some_arrows p q) t₀ t₁ t₂ a b

  pub role_exclusions : (p q p' q' : BasicRole) → p' ≡ turned p → q' ≡ turned q → AddedAll (in_both_orders (record { left = role p; right = role q })) t₀ t₁
      → AddedAll (in_both_orders (record { left = role p'; right = role q' })) t₁ t₂ → AddedAll (exclusions_of (role_disjoint p q)) t₀ t₂
  unfolding each
  role_exclusions p q p' q' e f a b =
      let first = in_both_orders (record { left = role p; right = role q }) in
      let back : AddedAll (in_both_orders (record { left = role (turned p); right = role (turned q) })) t₁ t₂ = rw (← e, ← f) b in
      added_more first (in_both_orders (record { left = role (turned p); right = role (turned q) })) t₀ t₁ t₂ a back

-- the ring of a role
pub ring_of : (t₀ t₁ t₂ t₃ t₄ : List ℕ) (j : ℕ) (r : Role) (q q' b b' : ℕ) → r ≡ record { number = j } → q ≡ node_code (role (forward r.number)) → q' ≡ node_code (role (inverse r.number))
    → b ≡ node_code (concept (some (forward r.number))) → b' ≡ node_code (concept (some (inverse r.number))) → Added t₀ t₁ q b → Added t₁ t₂ b b' → Added t₂ t₃ b' q' → Added t₃ t₄ q' q
    → AddedAll (ring j) t₀ t₄
ring_of t₀ t₁ t₂ t₃ t₄ j r q q' b b' is e e' f f' one two three four =
    subst (λ k. AddedAll (ring k.number) t₀ t₄) is
    (added_one (record { left = role (forward r.number); right = concept (some (forward r.number)) }) _ t₀ t₁ t₄ q b one e f
    (added_one (record { left = concept (some (forward r.number)); right = concept (some (inverse r.number)) }) _ t₁ t₂ t₄ b b' two f f'
    (added_one (record { left = concept (some (inverse r.number)); right = role (inverse r.number) }) _ t₂ t₃ t₄ b' q' three f' e'
    (added_last (record { left = role (inverse r.number); right = role (forward r.number) }) t₃ t₄ q' q four e' e))))

-- the rings, one after the other
pub each_more : {A B : Type 0} (f : A → List B) (l : List A) (x : A) → each f (l ++ (x ∷ [])) ≡ each f l ++ f x
unfolding each
each_more f [] x = append-nil (f x)
each_more f (y ∷ l) x = ap (λ k. f y ++ k) (each_more f l x) ∙ sym (append_assoc (f y) (each f l) (f x))

rings_more : (j : ℕ) → rings (suc j) ≡ rings j ++ ring j
unfolding rings up_to
rings_more j = each_more ring (up_to j) j

pub rings_start : (t : List ℕ) → AddedAll (rings 0) t t
unfolding rings up_to each
rings_start t = added_none t

pub rings_on : (j : ℕ) (old t new : List ℕ) → AddedAll (rings j) old t → AddedAll (ring j) t new → AddedAll (rings (j + 1)) old new
rings_on j old t new p q = rw (add-one, rings_more) (added_more (rings j) (ring j) old t new p q)

pub rings_end : (j roles : ℕ) (old new : List ℕ) → AddedAll (rings j) old new → j ≤ roles → roles ≤ j → AddedAll (rings roles) old new
rings_end j roles old new p h k =
    let e : j ≡ roles = omega arith in
    subst (λ m. AddedAll (rings m) old new) e p

-- the functional roles
same_code : (j k : ℕ) → functional (role_of j) ≡ functional (role_of k) → j ≡ k
same_code j k e =
    let f : role_of j ≡ role_of k = cc in
    sym (role_code_lem j) ∙ ap role_code f ∙ role_code_lem k

module _ (mask code : ℕ) where
  functional_over : 64 ≤ code → FunctionalAdded (functional (role_of code)) mask mask
  functional_over h =
      record { stays = λ k b. b; comes = λ k l e. let z = same_code code k e in absurd (omega arith); came = λ k b. was b }

  functional_more : code < 64 → FunctionalAdded (functional (role_of code)) mask (bit_or mask ((1 * 2 ^ code) % 18446744073709551616))
  functional_more h = subst (λ m. FunctionalAdded (functional (role_of code)) mask (bit_or mask m)) (sym exact) known
    where
      exact : (1 * 2 ^ code) % 2 ^ 64 ≡ 1 * 2 ^ code
      exact = shl_exact 1 code 64 (omega arith) (omega arith)

      back : (k : ℕ) → (bit_of mask k ≡ true) ⊎ (bit_of (1 * 2 ^ code) k ≡ true) → CameFunctional (functional (role_of code)) mask k
      back k (inl b) = was b
      back k (inr b) = of_rule (ap (λ n. functional (role_of n)) (sym (bit_other code k b)))

      known : FunctionalAdded (functional (role_of code)) mask (bit_or mask (1 * 2 ^ code))
      known =
          record {
            stays = λ k b. bit_or_lem mask (1 * 2 ^ code) k ∙ or_left (bit_of mask k) (bit_of (1 * 2 ^ code) k) b;
            comes = λ k l e.
                bit_or_lem mask (1 * 2 ^ code) k ∙ or_right (bit_of mask k) (bit_of (1 * 2 ^ code) k) (subst (λ n. bit_of (1 * 2 ^ code) n ≡ true) (same_code code k e) (bit_same code));
            came = λ k b. back k (or_cases (bit_of mask k) (bit_of (1 * 2 ^ code) k) (sym (bit_or_lem mask (1 * 2 ^ code) k) ∙ b));
          }

-- the same of a basic role by its code
module _ (mask code : ℕ) (q : BasicRole) (is : code ≡ role_code q) where
  by_code : role_of code ≡ q
  by_code = ap role_of is ∙ role_of_code q

  pub code_over : 64 ≤ code → FunctionalAdded (functional q) mask mask
  code_over h = subst (λ p. FunctionalAdded (functional p) mask mask) by_code (functional_over mask code h)

  pub code_more : code < 64 → FunctionalAdded (functional q) mask (bit_or mask ((1 * 2 ^ code) % 18446744073709551616))
  code_more h = subst (λ p. FunctionalAdded (functional p) mask (bit_or mask ((1 * 2 ^ code) % 18446744073709551616))) by_code (functional_more mask code h)

module _ (mask : ℕ) (rule : RuleCase) where
  not_functional : (r : Rule) → ((k : ℕ) → r ≡ functional (role_of k) → ⊥) → FunctionalAdded r mask mask
  not_functional r f = record { stays = λ k b. b; comes = λ k l e. absurd (f k e); came = λ k b. was b }

  pub functional_0 : (b c : ConceptCode) → rule ≡ Included b c → FunctionalAdded (rule_told rule) mask mask
  functional_0 b c z = rw z (not_functional (included (basic_concept_told b) (basic_concept_told c)) λ k e. let w : ◌≡◌ {A = ℕ} 0 1 = cc in omega arith)

  pub functional_1 : (b c : ConceptCode) → rule ≡ Disjoint b c → FunctionalAdded (rule_told rule) mask mask
  functional_1 b c z = rw z (not_functional (disjoint (basic_concept_told b) (basic_concept_told c)) λ k e. let w : ◌≡◌ {A = ℕ} 0 1 = cc in omega arith)

  pub functional_2 : (p q : RoleCode) → rule ≡ RoleIncluded p q → FunctionalAdded (rule_told rule) mask mask
  functional_2 p q z = rw z (not_functional (role_included (basic_role_told p) (basic_role_told q)) λ k e. let w : ◌≡◌ {A = ℕ} 0 1 = cc in omega arith)

  pub functional_3 : (p q : RoleCode) → rule ≡ RoleDisjoint p q → FunctionalAdded (rule_told rule) mask mask
  functional_3 p q z = rw z (not_functional (role_disjoint (basic_role_told p) (basic_role_told q)) λ k e. let w : ◌≡◌ {A = ℕ} 0 1 = cc in omega arith)

  pub functional_4 : (q : RoleCode) (r : ℕ) → rule ≡ Functional q → FunctionalAdded (functional (basic_role_told q)) mask r → FunctionalAdded (rule_told rule) mask r
  functional_4 q r z h = rw z h

pub ruleset adds = (arrows_included, arrows_role, exclusions_disjoint, exclusions_role, no_arrows_1, no_arrows_3, no_arrows_4, no_exclusions_0, no_exclusions_2, no_exclusions_4, in_both_orders_lem, two_roles, two_somes, role_arrows_lem, role_exclusions, ring_of, rings_start, rings_on, rings_end, code_over, code_more, functional_0, functional_1, functional_2, functional_3, functional_4, rules)
