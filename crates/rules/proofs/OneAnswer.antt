-- Every reading of rules leaves one answer. A rule is told with its codes as basic concepts and basic roles; these have one code each.
use Prim.Native.Nat.{ℕ}
use mathlib.Core.Path.{◌≡◌, refl, ap, ap₂}
use mathlib.Core.List.{List}
use Rattle.number.specs.Answer.{Answer, over}
use Rattle.number.specs.declared.read.Read.{Read}
use Rattle.std.specs.Prelude.{Ok, Err}
use Rattle.number.proofs.One.{one, undone}
use Rattle.site.specs.Kinds.{BasicRole as SaidRole, BasicConcept as SaidConcept, Rule as SaidRule}
use Rattle.site.specs.Kinds.BasicRole.{forward, inverse}
use Rattle.site.specs.Kinds.BasicConcept.{named, some}
use Rattle.site.specs.Kinds.Rule.{included, disjoint, role_included, role_disjoint, functional}
use Rattle.site.specs.Told.{basic_role_told, basic_concept_told, rule_told}
use Rattle.site.specs.declared.nodes.BasicRole.{BasicRole}
use Rattle.site.specs.declared.nodes.BasicRole.TheVariants.{Forward, Inverse}
use Rattle.site.specs.declared.nodes.BasicConcept.{BasicConcept}
use Rattle.site.specs.declared.nodes.BasicConcept.TheVariants.{Named, SomeBy}
use Rattle.site.specs.declared.rule.Rule.{Rule}
use Rattle.site.specs.declared.rule.Rule.TheVariants.{Included, Disjoint, RoleIncluded, RoleDisjoint, Functional}
use Rattle.rule.specs.OneRule.{head_of, rule_at}
use Rattle.rules.specs.RuleFile.{check_rules}
use Rattle.rule.specs.Told.{rule_read}
use Rattle.rule.specs.declared.head.Head.{Head}

role_back : SaidRole → BasicRole
role_back (forward j) = Forward (record { number = j })
role_back (inverse j) = Inverse (record { number = j })

concept_back : SaidConcept → BasicConcept
concept_back (named i) = Named (record { number = i })
concept_back (some q) = SomeBy (role_back q)

rule_back : SaidRule → Rule
rule_back (included b c) = Included (concept_back b) (concept_back c)
rule_back (disjoint b c) = Disjoint (concept_back b) (concept_back c)
rule_back (role_included p q) = RoleIncluded (role_back p) (role_back q)
rule_back (role_disjoint p q) = RoleDisjoint (role_back p) (role_back q)
rule_back (functional q) = Functional (role_back q)

undone_role : (q : BasicRole) → role_back (basic_role_told q) ≡ q
unfolding role_back
undone_role = elim [ Forward r ↦ refl | Inverse r ↦ refl ]

undone_concept : (b : BasicConcept) → concept_back (basic_concept_told b) ≡ b
unfolding concept_back
undone_concept = elim [ Named c ↦ refl | SomeBy q ↦ ap SomeBy (undone_role q) ]

undone_rule : (r : Rule) → rule_back (rule_told r) ≡ r
unfolding rule_back
undone_rule =
    elim [
      | Included x y ↦ ap₂ Included (undone_concept x) (undone_concept y)
      | Disjoint x y ↦ ap₂ Disjoint (undone_concept x) (undone_concept y)
      | RoleIncluded x y ↦ ap₂ RoleIncluded (undone_role x) (undone_role y)
      | RoleDisjoint x y ↦ ap₂ RoleDisjoint (undone_role x) (undone_role y)
      | Functional x ↦ ap Functional (undone_role x)
    ]

pub rule_told_apart : (r r' : Rule) → rule_told r ≡ rule_told r' → r ≡ r'
rule_told_apart = undone rule_told rule_back undone_rule

rule_read_back : Answer (Read SaidRule) → Answer (Read Rule)
rule_read_back = over (λ r. record { value = rule_back r.value; next = r.next })

pub rule_read_apart : (r r' : Answer (Read Rule)) → rule_read r ≡ rule_read r' → r ≡ r'
unfolding rule_read_back
rule_read_apart =
    undone rule_read rule_read_back (elim [ Ok r ↦ ap (λ (x : Rule). Ok (record { value = x; next = r.next })) (undone_rule r.value) | Err r ↦ refl ])

-- reading leaves one answer
pub one_head : (s : List ℕ) (r r' : Answer Head) → r ≡ head_of s → r' ≡ head_of s → r ≡ r'
one_head s r r' e e' = one e e'

pub one_rule : (h : Head) (s : List ℕ) (at : ℕ) (r r' : Answer (Read Rule)) → rule_read r ≡ rule_at h s at → rule_read r' ≡ rule_at h s at → r ≡ r'
one_rule h s at r r' e e' = rule_read_apart r r' (one e e')

pub one_rule_file : (s : List ℕ) (r r' : Answer Head) → r ≡ check_rules s → r' ≡ check_rules s → r ≡ r'
one_rule_file s r r' e e' = one e e'
