-- Facts that are read one after the other: what a fact's numbers are where it is read, and an accepted walk as one list of such steps.
-- A run is what acceptance gives, and a run gives acceptance; every law about a bundle's facts goes by the run's steps.
use Prim.Native.Nat.{ℕ, zero, suc, ◌+◌}
use mathlib.Core.Path.{◌≡◌, refl, sym, ap, ap₂, subst, ◌∙◌}
use mathlib.Core.Bool.{Bool, true, false, cond}
use mathlib.Core.List.{List, [], ◌∷◌}
use lib.ListN.{length}
use lib.Dec.{ltb}
use Rattle.number.specs.Answer.{Answer, refusal, about, over, ◌then◌}
use Rattle.std.specs.Prelude.{Ok, Err}
use Rattle.number.specs.Number.{number_at}
use Rattle.number.specs.declared.read.Read.{Read}
use Rattle.number.specs.declared.refusal.Fault.TheVariants.{Unknown, Order}
use Rattle.number.specs.declared.refusal.Side.TheVariants.{Bundle}
use Rattle.number.proofs.Answers.{given_once as same-given, about_given, over_given, passed, went}
use Rattle.site.specs.declared.fact.Fact.{Fact}
use Rattle.site.specs.Items.{tested_at, code_at, items_from}
use Rattle.site.specs.Kinds.{of_concept}
use Rattle.site.specs.Limits.{most_thing}
use Rattle.site.proofs.There.{tested_there}
use Rattle.bundle.specs.Bundle.{fact_at, ascends, next_fact, facts_from, facts_in}
use Rattle.bundle.specs.declared.walk.Stand.{Stand}
use Rattle.std.specs.Prelude.{Option}
use Rattle.std.specs.Prelude.{None, Some}
use Rattle.bundle.specs.Told.{fact_rest}

-- the object of a fact: none for a concept's, and a number for a role's
pub data ObjectThere (s : List ℕ) (place : ℕ) (f : Fact) (next : ℕ) : Type 0 where
  of_concept_lem : of_concept f ≡ true → f.object ≡ 0 → next ≡ place → ObjectThere s place f next
  of_role : of_concept f ≡ false → number_at s place most_thing Bundle ≡ Ok (record { value = f.object; next = next }) → ObjectThere s place f next

-- a fact that is there: its numbers, one after the other
pub record FactThere (known : ℕ → Bool) (s : List ℕ) (at : ℕ) (f : Fact) (next : ℕ) : Type 0 where
  pub place_of_subject : ℕ
  pub place_of_object : ℕ
  pub holds : known f.predicate ≡ true
  pub predicate : number_at s at most_thing Bundle ≡ Ok (record { value = f.predicate; next = place_of_subject })
  pub subject : number_at s place_of_subject most_thing Bundle ≡ Ok (record { value = f.subject; next = place_of_object })
  pub object : ObjectThere s place_of_object f next

abbrev fact_of : ℕ → ℕ → ℕ → Fact
fact_of predicate subject object = record { predicate = predicate; subject = subject; object = object }

abbrev read_of : Fact → ℕ → Read Fact
read_of f next = record { value = f; next = next }

-- what follows the subject
abbrev object_by : Bool → List ℕ → ℕ → Read ℕ → Answer (Read Fact)
object_by concept s predicate a =
    cond concept
    (Ok (read_of (fact_of predicate a.value 0) a.next))
    (number_at s a.next most_thing Bundle then λ b.
    Ok (read_of (fact_of predicate a.value b.value) b.next))

abbrev fact_object : List ℕ → ℕ → Read ℕ → Answer (Read Fact)
fact_object s predicate a = object_by (ltb predicate 64) s predicate a

rest_by_object : (s : List ℕ) (predicate at : ℕ) → fact_rest s predicate at ≡ (number_at s at most_thing Bundle then λ a. fact_object s predicate a)
unfolding fact_rest
rest_by_object s predicate at = refl

-- a fact is its predicate and what follows
pub fact_by_rest : (known : ℕ → Bool) (s : List ℕ) (at : ℕ) → fact_at known s at ≡ (code_at s at known Bundle then λ p. fact_rest s p.value p.next)
unfolding fact_at fact_rest
fact_by_rest known s at = refl

record AfterSubject (s : List ℕ) (predicate : ℕ) (a : Read ℕ) (f : Fact) (next : ℕ) : Type 0 where
  same_predicate : predicate ≡ f.predicate
  same_subject : a.value ≡ f.subject
  object : ObjectThere s a.next f next

module _ (s : List ℕ) (predicate : ℕ) (a : Read ℕ) (f : Fact) (next : ℕ) where
  by_kind : (t : Bool) → ltb predicate 64 ≡ t → object_by t s predicate a ≡ Ok (record { value = f; next = next }) → AfterSubject s predicate a f next
  by_kind true is e =
      let same : read_of (fact_of predicate a.value 0) a.next ≡ read_of f next = same-given e in
      let is_f : fact_of predicate a.value 0 ≡ f = ap (λ r. r.value) same in
      record {
        same_predicate = ap (λ g. g.predicate) is_f;
        same_subject = ap (λ g. g.subject) is_f;
        object = of_concept_lem (ap of_concept (sym is_f) ∙ is) (sym (ap (λ g. g.object) is_f)) (sym (ap (λ r. r.next) same));
      }
  by_kind false is e =
      let w = went (number_at s a.next most_thing Bundle) (λ b. Ok (read_of (fact_of predicate a.value b.value) b.next)) e in
      let same : read_of (fact_of predicate a.value w.value.value) w.value.next ≡ read_of f next = same-given w.rest in
      let is_f : fact_of predicate a.value w.value.value ≡ f = ap (λ r. r.value) same in
      record {
        same_predicate = ap (λ g. g.predicate) is_f;
        same_subject = ap (λ g. g.subject) is_f;
        object = of_role (ap of_concept (sym is_f) ∙ is) (w.first ∙ ap (λ r. Ok (record { value = r.value.object; next = r.next })) same);
      }

module _ (known : ℕ → Bool) (s : List ℕ) (at : ℕ) (f : Fact) (next : ℕ) where
  -- what is known of a fact that was read
  pub fact_there : fact_at known s at ≡ Ok (record { value = f; next = next }) → FactThere known s at f next
  fact_there e =
      let w = went (code_at s at known Bundle) (λ p. fact_rest s p.value p.next) (sym (fact_by_rest known s at) ∙ e) in
      let p = w.value in
      let c = tested_there s at known Unknown Bundle p w.first in
      let v = went (number_at s p.next most_thing Bundle) (λ a. fact_object s p.value a) (sym (rest_by_object s p.value p.next) ∙ w.rest) in
      let o = by_kind s p.value v.value f next (ltb p.value 64) refl v.rest in
      record {
        place_of_subject = p.next;
        place_of_object = v.value.next;
        holds = ap known (sym o.same_predicate) ∙ c.holds;
        predicate = c.number ∙ ap (λ x. Ok (record { value = x; next = p.next })) o.same_predicate;
        subject = v.first ∙ ap (λ x. Ok (record { value = x; next = v.value.next })) o.same_subject;
        object = o.object;
      }

  after_object : {place : ℕ} → ObjectThere s place f next → fact_object s f.predicate (record { value = f.subject; next = place }) ≡ Ok (record { value = f; next = next })
  after_object (of_concept_lem is zero-object place_is) =
      rw is
      (ap₂ (λ o n. Ok (read_of (fact_of f.predicate f.subject o) n)) (sym zero-object) (sym place_is))
  after_object (of_role is there) = rw (is, there)

  -- and that is enough for its reading
  pub fact_read : FactThere known s at f next → fact_at known s at ≡ Ok (record { value = f; next = next })
  unfolding tested_at
  fact_read t =
      rw (fact_by_rest known s at, t.predicate, t.holds, rest_by_object s f.predicate t.place_of_subject, t.subject)
      (after_object t.object)

-- a fact that is there is there for every pass that takes any predicate
pub any_there : {known : ℕ → Bool} {s : List ℕ} {at : ℕ} {f : Fact} {next : ℕ} → FactThere known s at f next → FactThere (λ _. true) s at f next
any_there t =
    record {
      place_of_subject = t.place_of_subject;
      place_of_object = t.place_of_object;
      holds = refl;
      predicate = t.predicate;
      subject = t.subject;
      object = t.object;
    }

-- facts that are read one after the other, each above the one before it, from a place to a place
pub data Run (known : ℕ → Bool) (s : List ℕ) : Option Fact → List Fact → ℕ → ℕ → Type 0 where
  stop : {last : Option Fact} {at : ℕ} → Run known s last [] at at
  more : {last : Option Fact} {f : Fact} {fs : List Fact} {at next end : ℕ} → FactThere known s at f next → ascends last f ≡ true
      → Run known s (Some f) fs next end → Run known s last (f ∷ fs) at end

-- a walk that was accepted
pub record WalkThere (known : ℕ → Bool) (s : List ℕ) (last : Option Fact) (n at end : ℕ) : Type 0 where
  pub run : Run known s last (facts_in s n at) at end
  pub count : length (facts_in s n at) ≡ n

module _ (known : ℕ → Bool) (s : List ℕ) where
  -- the next fact that was read
  pub record NextThere (here there : Stand) : Type 0 where
    pub read : Fact
    pub is_there : FactThere known s here.at read there.at
    pub up : ascends here.last read ≡ true
    pub after_it : Some read ≡ there.last

  pub next_there : (here there : Stand) → next_fact known s here ≡ Ok there → NextThere here there
  unfolding next_fact
  next_there here there e =
      let w = went (fact_at known s here.at) (λ f. cond (ascends here.last f.value) (Ok (record { last = Some f.value; at = f.next })) (Err (refusal Order Bundle here.at))) e in
      let f = w.value in
      let on : Stand = record { last = Some f.value; at = f.next } in
      let t = passed (ascends here.last f.value) (Ok on) (refusal Order Bundle here.at) w.rest in
      let same : on ≡ there = same-given t.answer in
      record {
        read = f.value;
        is_there = subst (λ (x : Stand). FactThere known s here.at f.value x.at) same (fact_there known s here.at f.value f.next w.first);
        up = t.test;
        after_it = ap (λ (x : Stand). x.last) same;
      }

  one_more : (last : Option Fact) (n at : ℕ) (f : Fact) (next end : ℕ) → FactThere known s at f next → ascends last f ≡ true
      → WalkThere known s (Some f) n next end → WalkThere known s last (suc n) at end
  unfolding facts_in
  one_more last n at f next end there up rest =
      let e = fact_read (λ _. true) s at f next (any_there there) in
      record { run = rw e (more there up rest.run); count = rw e (ap suc rest.count) }

  items_there : (k n : ℕ) (here end : Stand) → items_from (next_fact known s) k n here ≡ Ok end → WalkThere known s here.last n here.at end.at
  unfolding items_from facts_in
  items_there k zero here end e = record { run = rw (same-given e) stop; count = refl }
  items_there k (suc n) here end e =
      let w = went (about k (next_fact known s here)) (items_from (next_fact known s) (k + 1) n) e in
      let t = next_there here w.value (about_given k (next_fact known s here) w.first) in
      one_more here.last n here.at t.read w.value.at end.at t.is_there t.up
      (subst (λ (l : Option Fact). WalkThere known s l n w.value.at end.at) (sym t.after_it) (items_there (k + 1) n w.value end w.rest))

  pub walk_there : (n at end : ℕ) → facts_from known s n at ≡ Ok end → WalkThere known s None n at end
  walk_there n at end e =
      let o = over_given (λ x. x.at) (items_from (next_fact known s) 0 n (record { last = None; at = at })) e in
      subst (λ (p : ℕ). WalkThere known s None n at p) o.told (items_there 0 n (record { last = None; at = at }) o.value o.given)

  -- a run is accepted
  pub run_walks : {last : Option Fact} {fs : List Fact} {at end : ℕ} → Run known s last fs at end → (k : ℕ)
      → over (λ x. x.at) (items_from (next_fact known s) k (length fs) (record { last = last; at = at })) ≡ Ok end
  unfolding items_from next_fact
  run_walks stop k = refl
  run_walks (more {f = f} {at = at} {next = next} there up run) k = rw (fact_read known s at f next there, up) (run_walks run (k + 1))

  -- and its facts are what a later pass reads
  pub run_reads : {last : Option Fact} {fs : List Fact} {at end : ℕ} → Run known s last fs at end → facts_in s (length fs) at ≡ fs
  unfolding facts_in
  run_reads stop = refl
  run_reads (more {f = f} {at = at} {next = next} there up run) = rw (fact_read (λ _. true) s at f next (any_there there)) (ap (λ l. f ∷ l) (run_reads run))
