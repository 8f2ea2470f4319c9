-- The list of a site's nodes holds exactly the declared ones.
use Prim.Native.Nat.{ℕ}
use mathlib.Core.Path.{◌≡◌, refl, sym, ap, subst}
use mathlib.Core.Bool.{true}
use mathlib.Core.Logic.{⊎_elim}
use mathlib.Core.List.Memᴰ
use mathlib.Core.List.{[], ◌∷◌, map, Memᴰ}
use lib.Dec.{ltb}
use borrow.Author.Tests.{ltb-true, lt-ltb}
use Rattle.site.specs.Kinds.{BasicRole, Node, Site, role_in, declared}
use Rattle.site.specs.Kinds.BasicRole.{forward, inverse}
use Rattle.site.specs.Kinds.BasicConcept.{named, some}
use Rattle.site.specs.Kinds.Node.{concept, role}
use Rattle.site.specs.Lists.{up_to}
use Rattle.site.proofs.Lists.{below_of_up_to, up_to_of_below, each_of, of_each}
use Rattle.steps.specs.Tables.{roles_of, nodes_of}

role_in_lem : (n : ℕ) (q : BasicRole) → ltb (role_in q) n ≡ true → Memᴰ q (roles_of n)
unfolding roles_of
role_in_lem n (forward j) e = each_of (λ j. forward j ∷ inverse j ∷ []) (up_to_of_below n j (ltb-true j n e)) (Memᴰ.head refl)
role_in_lem n (inverse j) e = each_of (λ j. forward j ∷ inverse j ∷ []) (up_to_of_below n j (ltb-true j n e)) (Memᴰ.tail (Memᴰ.head refl))

one_of_two : (j : ℕ) (q : BasicRole) → Memᴰ q (forward j ∷ inverse j ∷ []) → role_in q ≡ j
one_of_two j q (Memᴰ.head e) = ap role_in e
one_of_two j q (Memᴰ.tail m) = ⊎_elim (λ e. ap role_in e) (λ r. absurd (Memᴰ.not-nil r)) (Memᴰ.cases_cons m)

role_out : (n : ℕ) (q : BasicRole) → Memᴰ q (roles_of n) → ltb (role_in q) n ≡ true
unfolding roles_of
role_out n q m =
    let f = of_each (λ j. forward j ∷ inverse j ∷ []) (up_to n) m in
    subst (λ i. ltb i n ≡ true) (sym (one_of_two f.source q f.given)) (lt-ltb f.source n (below_of_up_to n f.within))

module _ (s : Site) where
  pub node_in : (x : Node) → declared s x ≡ true → Memᴰ x (nodes_of s)
  unfolding nodes_of
  node_in (concept (named i)) e = Memᴰ.append_left _ (Memᴰ.map (λ i. concept (named i)) (up_to_of_below s.concepts i (ltb-true i s.concepts e)))
  node_in (concept (some q)) e =
      Memᴰ.append_right (map (λ i. concept (named i)) (up_to s.concepts)) (Memᴰ.append_left _ (Memᴰ.map (λ q. concept (some q)) (role_in_lem s.roles q e)))
  node_in (role q) e =
      Memᴰ.append_right (map (λ i. concept (named i)) (up_to s.concepts))
      (Memᴰ.append_right (map (λ q. concept (some q)) (roles_of s.roles)) (Memᴰ.map (λ q. role q) (role_in_lem s.roles q e)))

  pub node_out : (x : Node) → Memᴰ x (nodes_of s) → declared s x ≡ true
  unfolding nodes_of
  node_out x m = ⊎_elim named_out (λ k. ⊎_elim some_out role_out' (Memᴰ.append_cases (map (λ q. concept (some q)) (roles_of s.roles)) k)) (Memᴰ.append_cases (map (λ i. concept (named i)) (up_to s.concepts)) m)
    where
      named_out : Memᴰ x (map (λ i. concept (named i)) (up_to s.concepts)) → declared s x ≡ true
      named_out k =
          let r = Memᴰ.of_map (λ i. concept (named i)) (up_to s.concepts) k in
          subst (λ z. declared s z ≡ true) r.2 (lt-ltb r.0 s.concepts (below_of_up_to s.concepts r.1))

      some_out : Memᴰ x (map (λ q. concept (some q)) (roles_of s.roles)) → declared s x ≡ true
      some_out k =
          let r = Memᴰ.of_map (λ q. concept (some q)) (roles_of s.roles) k in
          subst (λ z. declared s z ≡ true) r.2 (role_out s.roles r.0 r.1)

      role_out' : Memᴰ x (map (λ q. role q) (roles_of s.roles)) → declared s x ≡ true
      role_out' k =
          let r = Memᴰ.of_map (λ q. role q) (roles_of s.roles) k in
          subst (λ z. declared s z ≡ true) r.2 (role_out s.roles r.0 r.1)
