-- The two questions: the lowest supporting fact by the tables is the definition's, and each fault of the arguments gives its refusal in order.
use Prim.Native.Nat.{ℕ, ◌+◌, ◌-◌, ◌/◌, ◌≤◌, ◌<◌}
use mathlib.Core.Path.{◌≡◌, sym, ap, ap₂, ◌∙◌}
use mathlib.Core.Bool.{Bool, true, false, ◌&&◌}
use mathlib.Core.List.{List, [], Memᴰ}
use lib.ListN.{length}
use native.Mathlib.Omega.{arith}
use borrow.Author.Tests.{le-ltb, le-leb, lt-leb}
use Rattle.number.specs.Answer.{refusal}
use Rattle.std.specs.Prelude.{Option, Ok, Err}
use Rattle.number.specs.declared.refusal.Refusal.{Refusal}
use Rattle.number.specs.declared.refusal.Fault.TheVariants.{Over, Unknown}
use Rattle.number.specs.declared.refusal.Side.TheVariants.{Call}
use Rattle.site.specs.declared.fact.Fact.{Fact}
use Rattle.site.specs.declared.nodes.Declared.{Declared}
use Rattle.site.specs.Kinds.{Site, declared}
use Rattle.site.specs.Kinds.Node.{concept, role}
use Rattle.site.specs.Codes.{concept_of, role_of, concept_declared, role_declared}
use Rattle.site.specs.Limits.{most_thing}
use Rattle.site.specs.Lists.{first}
use Rattle.site.proofs.OfKinds.{concept_declared_lem, role_declared_lem}
use Rattle.site.proofs.OfCodes.{concept_code_lem, role_code_lem}
use Rattle.rule.specs.declared.head.Head.{Head}
use Rattle.rules.specs.RuleFile.{site_of}
use Rattle.bundle.specs.Bundle.{facts_of}
use Rattle.bundle.specs.declared.facts.Facts.{Facts}
use Rattle.bundle.specs.Opened.{Accepted}
use Rattle.steps.specs.Tables.{follows_of}
use Rattle.follows.specs.Tells.{Tells}
use Rattle.follows.proofs.Telling.{included_coded}
use Rattle.clashes.specs.Types.{Typ as SaidTyp, typ, types_of, itself}
use Rattle.clashes.specs.Marks.{same_place, marked, supports, support}
use Rattle.clashes.specs.Coded.{code, coded_types, bits_follow, related_at, supports_coded, support_in}
use Rattle.clashes.specs.declared.types.Typ.{Typ}
use Rattle.clashes.proofs.OfAgreement.{any_same, first_same, type_declared, marked_same}
use Rattle.clashes.proofs.OfTests.{any_map}
use Rattle.clashes.proofs.OfTypes.{listed_of}
use Rattle.clean.specs.Cleaning.{below}
use Rattle.clean.specs.Operations.{reply_of, having, joining}
use Rattle.operations.specs.Promises.{RepliesTo}
use Rattle.operations.proofs.OfOperations.{lawful, as_many, given_is, spoken, agree}

module _ (rules bundle : List ℕ) (h : Head) (b : Facts) (acc : Accepted rules bundle h b) where
  abbrev site : Site
  site = site_of rules h

  abbrev facts : List Fact
  facts = facts_of bundle b

  module _ (inc exc : List ℕ) (word : ℕ) (tells : Tells site inc exc word) (x : SaidTyp) (known : declared site x.node ≡ true) where
    supports_same : (f : Fact) → Memᴰ f facts → supports_coded inc (code x) f ≡ supports itself (follows_of site) x f
    unfolding supports coded_types
    supports_same f m =
        any_map (λ y. related_at inc y (code x)) code (types_of itself f)
        ∙ any_same (λ y. related_at inc (code y) (code x)) (λ y. same_place y x && (follows_of site).is_included y.node x.node) (types_of itself f)
        (λ y k.
        ap (λ (t : Bool). same_place y x && t)
        (included_coded site (lawful rules bundle h b acc) inc exc word tells y.node x.node
        (type_declared site f (spoken rules bundle h b acc f m) (listed_of k)) known))

    support_same : support_in inc exc word bundle b (code x) ≡ support itself (follows_of site) facts x
    unfolding support_in support
    support_same =
        ap (λ (n : ℕ). first n (λ f. marked itself (bits_follow [] exc word) facts 0 f && supports_coded inc (code x) f) 0 facts) (sym (as_many rules bundle h b acc))
        ∙ first_same
        (λ f. marked itself (bits_follow [] exc word) facts 0 f && supports_coded inc (code x) f)
        (λ f. marked itself (follows_of site) facts 0 f && supports itself (follows_of site) x f)
        (length facts) 0 facts
        (λ f m.
        ap₂ (λ (p q : Bool). p && q)
        (marked_same site (bits_follow [] exc word) (follows_of site) (agree rules bundle h b acc inc exc word tells) facts (spoken rules bundle h b acc) 0 f m)
        (supports_same f m))

  pub reply_is : (inc exc : List ℕ) (word : ℕ) → Tells site inc exc word → (asked : Typ) (r : Option ℕ) → r ≡ below b.count (support_in inc exc word bundle b asked)
      → RepliesTo rules h bundle b asked r
  unfolding reply_of
  reply_is inc exc word tells asked r is =
      record {
        answer = λ x known same.
            is
            ∙ ap (λ (n : ℕ). below b.count n) (ap (λ (y : Typ). support_in inc exc word bundle b y) (sym same) ∙ support_same inc exc word tells x known)
            ∙ ap (λ (n : ℕ). below n (support itself (follows_of site) facts x)) (sym (as_many rules bundle h b acc));
      }

  few_roles : h.roles ≤ 32
  unfolding site_of
  few_roles = (lawful rules bundle h b acc).roles_within

  -- "B of a"
  module _ (question thing : ℕ) where
    module _ (unknown : concept_declared h.concepts h.roles question ≡ false) (q : Refusal) (is : q ≡ refusal Unknown Call 0) where
      has_unknown : Err q ≡ having rules bundle question thing
      unfolding having
      has_unknown = rw (is, given_is rules bundle h b acc, unknown)

    pub has_high : 128 ≤ question → (q : Refusal) → q ≡ refusal Unknown Call 0 → Err q ≡ having rules bundle question thing
    unfolding concept_declared
    has_high past r is =
        has_unknown (rw (le-ltb question 64 (omega arith), le-ltb ((question - 64) / 2) h.roles (omega (arith, few_roles)))) r is

    module _ (d : Declared) (is-d : d ≡ record { concepts = h.concepts; roles = h.roles }) (t : Bool) (is-t : t ≡ concept_declared d.concepts d.roles question) where
      by_head : t ≡ concept_declared h.concepts h.roles question
      by_head = is-t ∙ ap (λ (e : Declared). concept_declared e.concepts e.roles question) is-d

      pub has_undeclared : t ≡ false → (q : Refusal) → q ≡ refusal Unknown Call 0 → Err q ≡ having rules bundle question thing
      has_undeclared e r is = has_unknown (sym by_head ∙ e) r is

      module _ (yes-known : t ≡ true) where
        is_known : concept_declared h.concepts h.roles question ≡ true
        is_known = sym by_head ∙ yes-known

        pub has_over : most_thing < thing → (q : Refusal) → q ≡ refusal Over Call 0 → Err q ≡ having rules bundle question thing
        unfolding having
        has_over past r is = rw (is, given_is rules bundle h b acc, is_known, lt-leb thing most_thing past)

        pub has_replied : thing ≤ most_thing → (r : Option ℕ) → RepliesTo rules h bundle b (record { node = question; from = thing; to = thing }) r
            → Ok r ≡ having rules bundle question thing
        unfolding having site_of
        has_replied within r to =
            let x = typ (concept (concept_of question)) thing thing in
            let known : declared site (concept (concept_of question)) ≡ true = sym (concept_declared_lem site question) ∙ is_known in
            rw (given_is rules bundle h b acc, is_known, le-leb thing most_thing within)
            (ap Ok (to.answer x known (ap (λ (n : ℕ). record { node = n; from = thing; to = thing }) (concept_code_lem question))))

  -- "q from a to b"
  module _ (question from to : ℕ) where
    module _ (unknown : role_declared h.roles question ≡ false) (q : Refusal) (is : q ≡ refusal Unknown Call 0) where
      joins_unknown : Err q ≡ joining rules bundle question from to
      unfolding joining
      joins_unknown = rw (is, given_is rules bundle h b acc, unknown)

    pub joins_high : 64 ≤ question → (q : Refusal) → q ≡ refusal Unknown Call 0 → Err q ≡ joining rules bundle question from to
    joins_high past r is = joins_unknown (le-ltb (question / 2) h.roles (omega (arith, few_roles))) r is

    module _ (d : Declared) (is-d : d ≡ record { concepts = h.concepts; roles = h.roles }) (t : Bool) (is-t : t ≡ role_declared d.roles question) where
      joins_by_head : t ≡ role_declared h.roles question
      joins_by_head = is-t ∙ ap (λ (e : Declared). role_declared e.roles question) is-d

      pub joins_undeclared : t ≡ false → (q : Refusal) → q ≡ refusal Unknown Call 0 → Err q ≡ joining rules bundle question from to
      joins_undeclared e r is = joins_unknown (sym joins_by_head ∙ e) r is

      module _ (yes-known : t ≡ true) where
        joins_known : role_declared h.roles question ≡ true
        joins_known = sym joins_by_head ∙ yes-known

        pub joins_over_from : most_thing < from → (q : Refusal) → q ≡ refusal Over Call 0 → Err q ≡ joining rules bundle question from to
        unfolding joining
        joins_over_from past r is = rw (is, given_is rules bundle h b acc, joins_known, lt-leb from most_thing past)

        module _ (from_within : from ≤ most_thing) where
          pub joins_over_to : most_thing < to → (q : Refusal) → q ≡ refusal Over Call 0 → Err q ≡ joining rules bundle question from to
          unfolding joining
          joins_over_to past r is = rw (is, given_is rules bundle h b acc, joins_known, le-leb from most_thing from_within, lt-leb to most_thing past)

          pub joins_replied : to ≤ most_thing → (r : Option ℕ) → RepliesTo rules h bundle b (record { node = 128 + question; from = from; to = to }) r
              → Ok r ≡ joining rules bundle question from to
          unfolding joining site_of
          joins_replied to_within r reply =
              let x = typ (role (role_of question)) from to in
              let known : declared site (role (role_of question)) ≡ true = sym (role_declared_lem site question) ∙ joins_known in
              rw (given_is rules bundle h b acc, joins_known, le-leb from most_thing from_within, le-leb to most_thing to_within)
              (ap Ok (reply.answer x known (ap (λ (n : ℕ). record { node = 128 + n; from = from; to = to }) (role_code_lem question))))
