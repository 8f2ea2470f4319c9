-- The kept bundle is accepted, and reads as the kept facts.
use Prim.Native.Nat.{ℕ}
use mathlib.Core.Path.{◌≡◌}
use mathlib.Core.List.{List}
use Rattle.std.specs.Prelude.{Ok}
use Rattle.rule.specs.declared.head.Head.{Head}
use Rattle.rules.specs.RuleFile.{check_rules, site_of}
use Rattle.rules.proofs.AcceptedFile.{accepted_lawful as lawful-rules}
use Rattle.bundle.specs.Bundle.{check_bundle, read_bundle, facts_of, bundle_of}
use Rattle.bundle.specs.declared.facts.Facts.{Facts}
use Rattle.bundle.proofs.Accepted.{accepted_lawful as lawful_facts}
use Rattle.bundle.proofs.RoundTrips.{written_read}
use Rattle.steps.specs.Tables.{follows_of}
use Rattle.clashes.specs.Types.{itself}
use Rattle.clashes.specs.Marks.{kept}
use Rattle.clashes.proofs.OfKept.{kept_lawful}

module _ (rules bundle : List ℕ) (h : Head) (b : Facts) (of_rules : check_rules rules ≡ Ok h) (of_bundle : check_bundle h bundle ≡ Ok b) where
  pub kept_reads : read_bundle h (bundle_of (kept itself (follows_of (site_of rules h)) (facts_of bundle b))) ≡ Ok (kept itself (follows_of (site_of rules h)) (facts_of bundle b))
  unfolding site_of
  kept_reads =
      written_read h (lawful-rules rules h of_rules).roles_within (kept itself (follows_of (site_of rules h)) (facts_of bundle b))
      (kept_lawful itself (follows_of (site_of rules h)) (lawful_facts h bundle b of_bundle))
