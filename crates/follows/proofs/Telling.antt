-- The filled tables say what the definition's tables say: both pass exactly where the relations hold.
use Prim.Native.Nat.{ℕ, ◌<◌}
use mathlib.Core.Path.{◌≡◌, ap, subst, ◌∙◌}
use mathlib.Core.Bool.{true}
use mathlib.Core.List.{List}
use Rattle.site.specs.Kinds.{BasicRole, Node, Site, declared}
use Rattle.site.specs.Codes.{role_of, role_code, node_of, node_code}
use Rattle.site.specs.Lists.{each}
use Rattle.site.specs.declared.nodes.Declared.{Declared}
use Rattle.site.proofs.Lists.{same_test}
use Rattle.rules.specs.Lawful.{Lawful}
use Rattle.rules.specs.RuleFile.{rules_in, site_of}
use Rattle.rule.specs.declared.head.Head.{Head}
use Rattle.steps.specs.Tables.{arrows_of, follows_from, follows_of}
use Rattle.steps.proofs.Arrows.{leads_included, included_leads}
use Rattle.steps.proofs.Decided.{decides, functional_out, functional_in_lem}
use Rattle.tables.specs.Bits.{bit_of, has}
use Rattle.tables.specs.Passes.{Closes}
use Rattle.exclusions.specs.Lowering.{Shuts}
use Rattle.follows.specs.Adding.{AddedAll, exclusions_of, rings}
use Rattle.follows.specs.Tells.{Blank, FunctionalOf, Tells}
use Rattle.follows.proofs.Numbers.{code_node, role_of_code}
use Rattle.follows.proofs.Bridge.{included_based, on_based, excluded_out, excluded_in}

module _ (s : Site) (inc₀ inc₁ inc₂ on₀ on₁ on₂ on₃ exc₀ exc₁ exc₂ : List ℕ) (word : ℕ)
    (blank-inc : Blank inc₀) (inc-added : AddedAll (each arrows_of s.rules) inc₀ inc₁) (inc_Closed : Closes s.concepts s.roles inc₁ inc₂)
    (blank-on : Blank on₀) (on-added : AddedAll (each arrows_of s.rules) on₀ on₁) (on-rings : AddedAll (rings s.roles) on₁ on₂)
    (on-closed : Closes s.concepts s.roles on₂ on₃) (blank-exc : Blank exc₀) (exc-added : AddedAll (each exclusions_of s.rules) exc₀ exc₁)
    (shut : Shuts s.concepts s.roles inc₂ on₃ exc₁ exc₂) (functionals : FunctionalOf s.rules word) where
  by_included : Lawful s → (x y : ℕ) → has inc₂ x y ≡ (follows_of s).is_included (node_of x) (node_of y)
  by_included lawful x y =
      let d = (decides s lawful).included (node_of x) (node_of y) in
      let i = included_based s lawful inc₀ inc₁ inc₂ blank-inc inc-added inc_Closed in
      same_test (has inc₂ x y) ((follows_of s).is_included (node_of x) (node_of y))
      (λ h. d.1 (leads_included s (i.out x y h)))
      (λ h. i.into x y (included_leads s lawful (d.0 h)))

  by_excluded : Lawful s → (x y : ℕ) → has exc₂ x y ≡ (follows_of s).is_excluded (node_of x) (node_of y)
  by_excluded lawful x y =
      let d = (decides s lawful).excluded (node_of x) (node_of y) in
      let i = included_based s lawful inc₀ inc₁ inc₂ blank-inc inc-added inc_Closed in
      let l = on_based s lawful on₀ on₁ on₂ on₃ blank-on on-added on-rings on-closed in
      same_test (has exc₂ x y) ((follows_of s).is_excluded (node_of x) (node_of y))
      (λ h. d.1 (excluded_out s lawful exc₀ exc₁ blank-exc exc-added inc₂ on₃ i l exc₂ shut x y h))
      (λ h. excluded_in s lawful exc₀ exc₁ blank-exc exc-added inc₂ on₃ i l exc₂ shut x y (d.0 h))

  by_functional : (q : ℕ) → q < 64 → bit_of word q ≡ (follows_of s).is_functional (role_of q)
  unfolding follows_of follows_from
  by_functional q h =
      same_test (bit_of word q) ((follows_of s).is_functional (role_of q))
      (λ b. functional_in_lem s.rules (role_of q) (functionals.came q b))
      (λ b. functionals.comes q h (functional_out s.rules (role_of q) b))

  tells : Tells s inc₂ exc₂ word
  tells = record { in_included = by_included; in_excluded = by_excluded; in_functionals = by_functional }

-- what `fill` has done
pub filled_all : (s : List ℕ) (h : Head) (d : Declared) (inc₀ inc₁ inc₂ on₀ on₁ on₂ on₃ exc₀ exc₁ exc₂ : List ℕ) (word : ℕ) → d ≡ record { concepts = h.concepts; roles = h.roles }
    → Shuts d.concepts d.roles inc₂ on₃ exc₁ exc₂ → AddedAll (each exclusions_of (rules_in h s h.rules h.start)) exc₀ exc₁ → Blank exc₀
    → Closes d.concepts d.roles inc₁ inc₂ → AddedAll (each arrows_of (rules_in h s h.rules h.start)) inc₀ inc₁ → Blank inc₀
    → Closes d.concepts d.roles on₂ on₃ → AddedAll (rings d.roles) on₁ on₂ → AddedAll (each arrows_of (rules_in h s h.rules h.start)) on₀ on₁ → Blank on₀
    → FunctionalOf (rules_in h s h.rules h.start) word → Tells (site_of s h) inc₂ exc₂ word
unfolding site_of
filled_all s h d inc₀ inc₁ inc₂ on₀ on₁ on₂ on₃ exc₀ exc₁ exc₂ word e sh xa xb ic ia ib oc og oa ob fu =
    tells (site_of s h) inc₀ inc₁ inc₂ on₀ on₁ on₂ on₃ exc₀ exc₁ exc₂ word ib ia
    (subst (λ z. Closes z.concepts z.roles inc₁ inc₂) e ic)
    ob
    oa
    (subst (λ z. AddedAll (rings z.roles) on₁ on₂) e og)
    (subst (λ z. Closes z.concepts z.roles on₂ on₃) e oc)
    xb
    xa
    (subst (λ z. Shuts z.concepts z.roles inc₂ on₃ exc₁ exc₂) e sh)
    fu

-- the same of declared nodes and their codes
module _ (s : Site) (lawful : Lawful s) (inc exc : List ℕ) (word : ℕ) (t : Tells s inc exc word) where
  module _ (x y : Node) (dx : declared s x ≡ true) (dy : declared s y ≡ true) where
    pub included_coded : has inc (node_code x) (node_code y) ≡ (follows_of s).is_included x y
    included_coded =
        t.in_included lawful (node_code x) (node_code y)
        ∙ ap (λ n. (follows_of s).is_included n (node_of (node_code y))) (code_node s lawful x dx)
        ∙ ap (λ n. (follows_of s).is_included x n) (code_node s lawful y dy)

    pub excluded_coded : has exc (node_code x) (node_code y) ≡ (follows_of s).is_excluded x y
    excluded_coded =
        t.in_excluded lawful (node_code x) (node_code y)
        ∙ ap (λ n. (follows_of s).is_excluded n (node_of (node_code y))) (code_node s lawful x dx)
        ∙ ap (λ n. (follows_of s).is_excluded x n) (code_node s lawful y dy)

  pub functional_coded : (q : BasicRole) → role_code q < 64 → bit_of word (role_code q) ≡ (follows_of s).is_functional q
  functional_coded q h = t.in_functionals (role_code q) h ∙ ap (follows_of s).is_functional (role_of_code q)
