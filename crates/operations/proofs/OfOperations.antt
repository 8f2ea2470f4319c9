-- The operations: under accepted rules and an accepted bundle the tables give what the definitions say; any other input gives its refusal.
use Prim.Native.Nat.{ℕ, ◌≤◌, ◌<◌}
use mathlib.Core.Path.{◌≡◌, refl, sym, ap, subst, ◌∙◌}
use mathlib.Core.Bool.{Bool, true, false, and-false}
use lib.Dec.{ltb}
use mathlib.Core.List.{List, [], Memᴰ}
use lib.ListN.{length, get_or}
use lib.Seq.{sets}
use native.Mathlib.Omega.{arith}
use borrow.Author.Tests.{lt-ltb, le-ltb, le-leb, lt-leb, ltb-true, ltb-false}
use Rattle.std.specs.Prelude.{Some, None}
use Rattle.std.specs.Option.{option_map}
use Rattle.std.specs.List.{slice_get}
use Rattle.std.proofs.lemmas.Option.{slice_get_within, get_or_from_slice_get, slice_get-get_or}
use Rattle.number.specs.Answer.{Answer, refusal, ◌then◌, over}
use Rattle.std.specs.Prelude.{Ok, Err}
use Rattle.number.specs.declared.refusal.Refusal.{Refusal}
use Rattle.number.specs.declared.refusal.Fault.TheVariants.{Room, NoFact}
use Rattle.number.specs.declared.refusal.Side.TheVariants.{Call}
use Rattle.site.specs.declared.fact.Fact.{Fact}
use Rattle.site.specs.Kinds.{BasicRole, Site, declared_role}
use Rattle.site.specs.Kinds.BasicRole.{forward, inverse}
use Rattle.site.specs.Codes.{role_code, predicate_declared}
use Rattle.site.specs.Limits.{most_facts}
use Rattle.site.proofs.Lists.{get_or_within}
use Rattle.rules.specs.Lawful.{Lawful}
use Rattle.rule.specs.declared.head.Head.{Head}
use Rattle.rules.specs.RuleFile.{check_rules, site_of}
use Rattle.rules.proofs.AcceptedFile.{accepted_lawful as lawful-rules}
use Rattle.bundle.specs.Bundle.{check_bundle, read_bundle, facts_of}
use Rattle.std.specs.Prelude.{Option}
use Rattle.bundle.specs.Lawful.{LawfulFrom}
use Rattle.bundle.specs.Lawful.LawfulFrom.{done, next}
use Rattle.bundle.specs.Opened.{opening, Accepted}
use Rattle.bundle.specs.declared.facts.Facts.{Facts}
use Rattle.bundle.proofs.Accepted.{accepted_lawful as lawful_facts, accepted_count}
use Rattle.bundle.specs.declared.open.Inputs.{Inputs}
use Rattle.steps.specs.Tables.{Follows, follows_of}
use Rattle.follows.specs.Tells.{Tells}
use Rattle.follows.proofs.Telling.{excluded_coded, functional_coded}
use Rattle.clashes.specs.Types.{itself}
use Rattle.clashes.specs.Marks.{marks, partners, counts}
use Rattle.clashes.specs.Judging.{judged}
use Rattle.clashes.specs.Coded.{has_role, bits_follow}
use Rattle.clashes.specs.Tally.{Marks}
use Rattle.clashes.specs.declared.answers.Counts.{Counts}
use Rattle.clashes.specs.declared.answers.Judged.{Judged}
use Rattle.clashes.proofs.OfAgreement.{Agree, AllSpoken, mark_same, partner_same, marks_same, partners_same, counts_same}
use Rattle.clean.specs.Operations.{given, room_for_marks, marking, counting, asking, having, joining, keeping}
use Rattle.operations.specs.Promises.{MarksAll, WritesKept}

-- what opening gives or refuses
abbrev packed : Head → Facts → Answer Inputs
packed h b = Ok (record { head = h; facts = b })

module _ (rules bundle : List ℕ) (u : Refusal) (refused : opening rules bundle ≡ Err u) where
  given_refused : {A : Type 0} (k : Head → Follows → List Fact → Answer A) → given rules bundle k ≡ Err u
  unfolding given read_bundle opening
  given_refused {A} k = by (check_rules rules) refused
    where
      by : (a : Answer Head) → (a then λ h. check_bundle h bundle then packed h) ≡ Err u
          → (a then λ h. over (facts_of bundle) (check_bundle h bundle) then λ fs. k h (follows_of (site_of rules h)) fs) ≡ Err u
      by (Err x) e = let same : x ≡ u = cc in ap Err same
      by (Ok h) e = inner (check_bundle h bundle) e
        where
          inner : (a : Answer Facts) → (a then packed h) ≡ Err u
              → (over (facts_of bundle) a then λ fs. k h (follows_of (site_of rules h)) fs) ≡ Err u
          inner (Err x) e = let same : x ≡ u = cc in ap Err same
          inner (Ok b) e = absurd cc

  pub mark_refused : (row pair : List ℕ) → MarksAll rules bundle row pair (Err u) row pair
  unfolding marking
  mark_refused row pair = record { answer = rw given_refused; marks = rw given_refused; partners = rw given_refused }

  pub count_refused : Err u ≡ counting rules bundle
  unfolding counting
  count_refused = rw given_refused

  pub ask_refused : (n : ℕ) → Err u ≡ asking rules bundle n
  unfolding asking
  ask_refused n = rw given_refused

  pub has_refused : (code thing : ℕ) → Err u ≡ having rules bundle code thing
  unfolding having
  has_refused code thing = rw given_refused

  pub joins_refused : (code from to : ℕ) → Err u ≡ joining rules bundle code from to
  unfolding joining
  joins_refused code from to = rw given_refused

  pub kept_refused : (out : List ℕ) → WritesKept rules bundle out (Err u) out
  unfolding keeping
  kept_refused out = record { answer = rw given_refused; memory = rw given_refused }

-- accepted rules and an accepted bundle
module _ (rules bundle : List ℕ) (h : Head) (b : Facts) (acc : Accepted rules bundle h b) where
  abbrev site : Site
  site = site_of rules h

  abbrev facts : List Fact
  facts = facts_of bundle b

  pub lawful : Lawful site
  lawful = lawful-rules rules h acc.of_rules

  pub as_many : length facts ≡ b.count
  as_many = accepted_count h bundle b acc.of_bundle

  pub few : b.count ≤ most_facts
  few = omega (arith, as_many, (lawful_facts h bundle b acc.of_bundle).few)

  pub given_is : {A : Type 0} (k : Head → Follows → List Fact → Answer A) → given rules bundle k ≡ k h (follows_of site) facts
  unfolding given read_bundle
  given_is k = rw (acc.of_rules, acc.of_bundle)

  spoken_from : {last : Option Fact} {fs : List Fact} → LawfulFrom h last fs → AllSpoken site fs
  unfolding site_of
  spoken_from done f m = elim m [ ]
  spoken_from (next l a ls) f (Memᴰ.head e) = subst (λ (g : Fact). predicate_declared h.concepts h.roles g.predicate ≡ true) (sym e) l.known
  spoken_from (next l a ls) f (Memᴰ.tail m) = spoken_from ls f m

  pub spoken : AllSpoken site facts
  spoken = spoken_from (lawful_facts h bundle b acc.of_bundle).lawful

  role_low : (q : BasicRole) → declared_role site q ≡ true → role_code q < 64
  role_low (forward j) d = omega (arith, ltb-true j site.roles d, lawful.roles_within)
  role_low (inverse j) d = omega (arith, ltb-true j site.roles d, lawful.roles_within)

  module _ (inc exc : List ℕ) (word : ℕ) (tells : Tells site inc exc word) where
    pub agree : Agree site (bits_follow [] exc word) (follows_of site)
    unfolding has_role
    agree =
        record {
          on_excluded = λ x y dx dy. excluded_coded site lawful inc exc word tells x y dx dy;
          on_functional = λ q d. rw (lt-ltb (role_code q) 64 (role_low q d)) (functional_coded site lawful inc exc word tells q (role_low q d));
        }

    pub count_done : (c : Counts) → c ≡ counts itself (bits_follow [] exc word) facts → Ok c ≡ counting rules bundle
    unfolding counting
    count_done c e = rw (given_is, e, counts_same site (bits_follow [] exc word) (follows_of site) agree facts spoken)

    module _ (row pair : List ℕ) (row_room : b.count ≤ length row) (pair-room : b.count ≤ length pair) where
      marking_is : marking rules bundle (length row) (length pair)
          ≡ Ok (record { counts = counts itself (follows_of site) facts; marks = marks itself (follows_of site) facts; partners = partners itself (follows_of site) facts })
      unfolding marking room_for_marks
      marking_is = rw (given_is, as_many, le-leb b.count (length row) row_room, le-leb b.count (length pair) pair-room)

      pub mark_done : (c : Counts) (row' pair' : List ℕ) → Marks (bits_follow [] exc word) facts row pair c row' pair' → MarksAll rules bundle row pair (Ok c) row' pair'
      mark_done c row' pair' m =
          let t = bits_follow [] exc word in
          record {
            answer = rw marking_is (ap Ok (m.counted ∙ counts_same site t (follows_of site) agree facts spoken));
            marks = rw marking_is (m.marked ∙ ap (λ (l : List ℕ). sets row 0 l) (marks_same site t (follows_of site) agree facts spoken));
            partners = rw marking_is (m.partnered ∙ ap (λ (l : List ℕ). sets pair 0 l) (partners_same site t (follows_of site) agree facts spoken));
          }

    pub ask_done : (n : ℕ) → n < length facts → (f : Fact) → f ≡ get_or facts n (record { predicate = 0; subject = 0; object = 0 }) → (j : Judged)
        → j ≡ judged itself (bits_follow [] exc word) facts f → Ok j ≡ asking rules bundle n
    unfolding asking judged
    ask_done n inside f is_f j is-j =
        let t = bits_follow [] exc word in
        let h = spoken f (subst (λ (g : Fact). Memᴰ g facts) (sym is_f) (get_or_within facts n (record { predicate = 0; subject = 0; object = 0 }) inside)) in
        rw (given_is, lt-ltb n (length facts) inside, ← is_f, is-j, mark_same site t (follows_of site) agree facts spoken f h, partner_same site t (follows_of site) agree facts spoken f h)

  module _ (row pair : List ℕ) (q : Refusal) (is : q ≡ refusal Room Call 0) where
    no_row : marking rules bundle (length row) (length pair) ≡ Err (refusal Room Call 0) → MarksAll rules bundle row pair (Err q) row pair
    no_row e = record { answer = rw (e, is); marks = rw e; partners = rw e }

    pub mark_short : length row < b.count → MarksAll rules bundle row pair (Err q) row pair
    unfolding marking room_for_marks
    mark_short short = no_row (rw (given_is, as_many, lt-leb b.count (length row) short))

    pub mark_short_pair : length pair < b.count → MarksAll rules bundle row pair (Err q) row pair
    unfolding marking room_for_marks
    mark_short_pair short = no_row (rw (given_is, as_many, lt-leb b.count (length pair) short, and-false))

  pub ask_over : (n : ℕ) → length facts ≤ n → Err (refusal NoFact Call 0) ≡ asking rules bundle n
  unfolding asking
  ask_over n past = rw (given_is, le-ltb n (length facts) past)

  -- the head says how many there are
  pub ask_past : (n : ℕ) → b.count ≤ n → Err (refusal NoFact Call 0) ≡ asking rules bundle n
  ask_past n past = ask_over n (omega (arith, as_many, past))

-- a fact by its number, from the list of them
module _ (facts : List Fact) (n : ℕ) where
  pub none_at : (r : Option Fact) → option_map (λ f. f) r ≡ slice_get facts n → r ≡ None → length facts ≤ n
  none_at r is e = by (ltb n (length facts)) refl
    where
      by : (t : Bool) → ltb n (length facts) ≡ t → length facts ≤ n
      by true less =
          let some = slice_get-get_or facts n (record { predicate = 0; subject = 0; object = 0 }) (ltb-true n (length facts) less) in
          let none : slice_get facts n ≡ None = sym is ∙ ap (option_map (λ (f : Fact). f)) e in
          absurd cc
      by false over = ltb-false n (length facts) over

  pub record FactAt (f : Fact) : Type 0 where
    pub inside : n < length facts
    pub is : f ≡ get_or facts n (record { predicate = 0; subject = 0; object = 0 })

  pub some_at : (r : Option Fact) → option_map (λ f. f) r ≡ slice_get facts n → (f : Fact) → r ≡ Some f → FactAt f
  some_at r is f e =
      let there : slice_get facts n ≡ Some f = sym is ∙ ap (option_map (λ (g : Fact). g)) e in
      record { inside = slice_get_within facts n f there; is = sym (get_or_from_slice_get facts n f (record { predicate = 0; subject = 0; object = 0 }) there) }
