-- What each case of the code's kinds says.
use Rattle.std.specs.Prelude.{ℕ, ◌<◌, ◌≡◌, Result, MatchResult}
use Rattle.site.specs.Kinds.{BasicRole as SaidRole, BasicConcept as SaidConcept, Rule as SaidRule}
use Rattle.site.specs.Kinds.BasicRole.{forward, inverse}
use Rattle.site.specs.Kinds.BasicConcept.{named, some}
use Rattle.site.specs.Kinds.Rule.{included, disjoint, role_included, role_disjoint, functional}
use Rattle.site.specs.declared.nodes.BasicRole.{BasicRole}
use Rattle.site.specs.declared.nodes.BasicRole.TheVariants.{Forward, Inverse}
use Rattle.site.specs.declared.nodes.BasicConcept.{BasicConcept}
use Rattle.site.specs.declared.nodes.BasicConcept.TheVariants.{Named, SomeBy}
use Rattle.site.specs.declared.rule.Kind.{Kind}
use Rattle.site.specs.declared.rule.Kind.TheVariants.{Included as IncludedKind, Disjoint as DisjointKind, RoleIncluded as RoleIncludedKind, RoleDisjoint as RoleDisjointKind, Functional as FunctionalKind}
use Rattle.site.specs.declared.rule.UnknownKind.{UnknownKind}
use Rattle.site.specs.declared.rule.Rule.{Rule}
use Rattle.site.specs.declared.rule.Rule.TheVariants.{Included, Disjoint, RoleIncluded, RoleDisjoint, Functional}

-- a role in one of its two directions
abbrev pub basic_role_told : BasicRole → SaidRole
basic_role_told (Forward r) = forward r.number
basic_role_told (Inverse r) = inverse r.number

-- a concept, or having some partner
abbrev pub basic_concept_told : BasicConcept → SaidConcept
basic_concept_told (Named c) = named c.number
basic_concept_told (SomeBy q) = some (basic_role_told q)

-- kinds 0 to 4 of document 01's table
abbrev pub kind_number : Kind → ℕ
kind_number IncludedKind = 0
kind_number DisjointKind = 1
kind_number RoleIncludedKind = 2
kind_number RoleDisjointKind = 3
kind_number FunctionalKind = 4

-- the kind that has a number, or that number, which is over 4
abbrev pub KindOf : ℕ → Result Kind UnknownKind → Type 0
KindOf number r = MatchResult r (λ kind. kind_number kind ≡ number) (λ e. (e.0 ≡ number) × (4 < number))

-- the rule of each kind
abbrev pub rule_told : Rule → SaidRule
rule_told (Included x y) = included (basic_concept_told x) (basic_concept_told y)
rule_told (Disjoint x y) = disjoint (basic_concept_told x) (basic_concept_told y)
rule_told (RoleIncluded x y) = role_included (basic_role_told x) (basic_role_told y)
rule_told (RoleDisjoint x y) = role_disjoint (basic_role_told x) (basic_role_told y)
rule_told (Functional x) = functional (basic_role_told x)
