-- The three demands of the customer's order, whole, in the customer's words and order, about what C sees: the numbers that a call returns and the
-- memory that was lent to it. Whoever reads this page and the definitions that it names knows what is promised; `the_demands` proves it.
use Rattle.std.specs.Prelude.{ℕ, ◌+◌, ◌≤◌, ◌<◌, ◌≡◌, true, false, ◌↔◌, ◌⊎◌, List, [], ◌∷◌, ◌++◌, map, length, get_or, take, replicate, Some, None, Ok, Err}
use Rattle.number.specs.Answer.{fault_of, refusal, laid}
use Rattle.number.specs.Number.{number_at}
use Rattle.number.specs.declared.refusal.Refusal.{Refusal}
use Rattle.number.specs.declared.read.Read.{Read}
use Rattle.number.specs.declared.refusal.Side.TheVariants.{Bundle, Call}
use Rattle.site.specs.Codes.{concept_of, role_of, concept_declared, role_declared}
use Rattle.site.specs.Kinds.{Site}
use Rattle.site.specs.Kinds.Node.{concept, role}
use Rattle.site.specs.Limits.{most_concepts, most_roles, most_rules, most_facts, most_number, most_thing}
use Rattle.site.specs.declared.fact.Fact.{Fact}
use Rattle.rules.specs.Faults.{RulesFault}
use Rattle.rules.specs.RuleFile.{check_rules, site_of}
use Rattle.rule.specs.declared.head.Head.{Head}
use Rattle.bundle.specs.Bundle.{read_bundle, bundle_of}
use Rattle.bundle.specs.Faults.{BundleFault}
use Rattle.bundle.specs.Lawful.{LawfulFacts}
use Rattle.bundle.specs.Opened.{opening}
use Rattle.records.specs.Rows.{fact_of}
use Rattle.records.specs.declared.record.Record.{Record}
use Rattle.rows.specs.declared.reader.Reader.{Reader}
use Rattle.clashes.specs.Types.{itself, typ}
use Rattle.worlds.specs.Worlds.{Is, Joins as Joined, Consistent, LeftOut, LowestConflict, Always}
use Rattle.shown.specs.Shown.{refused, shown_length, shown_found}
use Rattle.shown.specs.declared.shapes.DzyRefusal.{DzyRefusal}
use Rattle.shown.specs.declared.shapes.DzyCounts.{DzyCounts}
use Rattle.shown.specs.declared.shapes.DzyAsked.{DzyAsked}
use Rattle.shown.specs.declared.shapes.DzyAnswer.{DzyAnswer}
use Rattle.shown.specs.declared.shapes.DzyLength.{DzyLength}
use Rattle.shown.specs.declared.shapes.DzyStart.{DzyStart}
use Rattle.shown.specs.declared.shapes.DzyYield.{DzyYield}
use Rattle.dzyunagor.specs.Promises.{CheckRules, CheckBundle, Mark, Count, Ask, Has, Joins, WriteKept, Records, WriteRecords, ReaderStart, ReaderNext}
use Rattle.face.specs.Face.{Face}
use Rattle.demands.specs.Said.{Numbered, Those, HowMany, Alone, Disputed, Kept, MarkIs, PartnerIs, AnswerIs}

-- it "does its work"
abbrev pub Done : DzyRefusal → Type 0
Done x = x.number ≡ 0

-- it "refuses"
abbrev pub Refused : DzyRefusal → Type 0
Refused x = 1 ≤ x.number

-- "accepted rules and an accepted bundle": their head, rules and facts
pub record BothRead (rules bundle : List ℕ) : Type 0 where
  pub head : Head
  pub facts : List Fact
  pub rules_read : check_rules rules ≡ Ok head
  pub bundle_read : read_bundle head bundle ≡ Ok facts

-- the rules that were read
abbrev pub site : {rules bundle : List ℕ} → BothRead rules bundle → Site
site {rules} a = site_of rules a.head

-- "the kept facts": those with mark 0, in order
abbrev pub KeptFacts : {rules bundle : List ℕ} → BothRead rules bundle → List Fact → Type 0
KeptFacts a facts = Those (Kept itself (site a) a.facts) a.facts facts

-- ---- Demand 1. "Every entry point takes arbitrary bytes, numbers and lent memory, and ends." That is `Face`.

-- not more than one outcome
abbrev pub Once : (A : Type 0) → (A → Type 0) → Type 0
Once A P = (x y : A) → P x → P y → x ≡ y

module _ (rules bundle : List ℕ) where
  -- "It does its work or refuses by number and place under the table in document 01": one answer, and one content of all lent memory, is left
  pub record OneAnswer : Type 0 where
    pub check_rules_lem : Once DzyLength (CheckRules rules)
    pub check_bundle_lem : Once DzyLength (CheckBundle rules bundle)
    pub mark : (marks partners : List ℕ) → Once (DzyCounts × (List ℕ × List ℕ)) (λ x. Mark rules bundle marks partners x.0 x.1.0 x.1.1)
    pub count : Once DzyCounts (Count rules bundle)
    pub ask : (k : ℕ) → Once DzyAsked (Ask rules bundle k)
    pub has : (code thing : ℕ) → Once DzyAnswer (Has rules bundle code thing)
    pub joins : (code from to : ℕ) → Once DzyAnswer (Joins rules bundle code from to)
    pub write_kept : (out : List ℕ) → Once (DzyLength × List ℕ) (λ x. WriteKept rules bundle out x.0 x.1)
    pub records : (row : List Record) → Once (DzyLength × List Record) (λ x. Records rules bundle row x.0 x.1)
    pub write_records : (row : List Record) (out : List ℕ) → Once (DzyLength × List ℕ) (λ x. WriteRecords rules row out x.0 x.1)
    pub reader_start_lem : Once DzyStart (ReaderStart rules bundle)
    pub reader_next : (before : Reader) → Once (DzyYield × Reader) (λ x. ReaderNext before x.0 x.1)

  -- "and a refusal writes nothing"; a reader that refuses "stays where it is"
  pub record WritesNothing : Type 0 where
    pub mark : (marks partners marks' partners' : List ℕ) (r : DzyCounts) → Mark rules bundle marks partners r marks' partners' → Refused r.refused → (marks' ≡ marks) × (partners' ≡ partners)
    pub write_kept : (out out' : List ℕ) (r : DzyLength) → WriteKept rules bundle out r out' → Refused r.refused → out' ≡ out
    pub records : (row row' : List Record) (r : DzyLength) → Records rules bundle row r row' → Refused r.refused → row' ≡ row
    pub write_records : (row : List Record) (out out' : List ℕ) (r : DzyLength) → WriteRecords rules row out r out' → Refused r.refused → out' ≡ out
    pub reader_next : (before left : Reader) (r : DzyYield) → ReaderNext before r left → Refused r.refused → left ≡ before

  -- files that are not read are refused, and every operation gives that refusal: "rules, then bundle, then arguments, then room"
  pub record RefusesFiles (q : Refusal) : Type 0 where
    pub check_bundle_lem : (r : DzyLength) → CheckBundle rules bundle r → r.refused ≡ refused q
    pub mark : (marks partners marks' partners' : List ℕ) (r : DzyCounts) → Mark rules bundle marks partners r marks' partners' → r.refused ≡ refused q
    pub count : (r : DzyCounts) → Count rules bundle r → r.refused ≡ refused q
    pub ask : (k : ℕ) (r : DzyAsked) → Ask rules bundle k r → r.refused ≡ refused q
    pub has : (code thing : ℕ) (r : DzyAnswer) → Has rules bundle code thing r → r.refused ≡ refused q
    pub joins : (code from to : ℕ) (r : DzyAnswer) → Joins rules bundle code from to r → r.refused ≡ refused q
    pub write_kept : (out out' : List ℕ) (r : DzyLength) → WriteKept rules bundle out r out' → r.refused ≡ refused q
    pub records : (row row' : List Record) (r : DzyLength) → Records rules bundle row r row' → r.refused ≡ refused q
    pub reader_start_lem : (r : DzyStart) → ReaderStart rules bundle r → r.refused ≡ refused q

  -- "Demand 1 reads with the longer answer": a refusal of files is about "the number of the item there (rule or fact; 65,535 in the header and after
  -- the last item)"
  abbrev pub ItemThere : Refusal → Type 0
  ItemThere q = RulesFault rules q ⊎ ((h : Head) × (check_rules rules ≡ Ok h) × BundleFault h bundle q)

  -- both files are read, or there is one refusal of them, about the item there
  abbrev pub ReadOrRefused : Type 0
  ReadOrRefused = BothRead rules bundle ⊎ ((q : Refusal) × (opening rules bundle ≡ Err q) × RefusesFiles q × ItemThere q)

  -- "A bundle over a limit is refused and never shortened. Reason: support has to know that it holds all of it."
  pub record OverLimits : Type 0 where
    -- more facts than a bundle holds: 4, at the count
    pub too_many : (h : Head) (n : Read ℕ) (r : DzyLength) → check_rules rules ≡ Ok h → number_at bundle 0 most_number Bundle ≡ Ok n → most_facts < n.value
        → CheckBundle rules bundle r → r.refused ≡ refused (refusal (fault_of 4) Bundle 0)
    -- what is accepted is within every limit
    pub few_rules : (a : BothRead rules bundle) → (a.head.concepts ≤ most_concepts) × (a.head.roles ≤ most_roles) × (a.head.rules ≤ most_rules)
    pub lawful_facts : (a : BothRead rules bundle) → LawfulFacts a.head a.facts
    -- and is there whole: an answer is given exactly of files that were read, and it counts every fact
    pub read : (r : DzyLength) → CheckBundle rules bundle r → Done r.refused → BothRead rules bundle
    pub counted : (a : BothRead rules bundle) (r : DzyLength) → CheckBundle rules bundle r → r ≡ shown_length (Ok (length a.facts))

-- refused by this number, for the call's own arguments or for room: side 2, place 0, about no item
abbrev pub By : ℕ → DzyRefusal → Type 0
By number x = x ≡ refused (refusal (fault_of number) Call 0)

-- "refuses by number and place under the table in document 01": of files that were read, by arguments and room alone, and each refusal exactly then
module _ {rules bundle : List ℕ} (a : BothRead rules bundle) where
  pub record RefusesExactly : Type 0 where
    -- 9: "a lent output is too short"
    pub mark : (marks partners marks' partners' : List ℕ) (r : DzyCounts) → Mark rules bundle marks partners r marks' partners'
        → length a.facts ≤ length marks → length a.facts ≤ length partners → Done r.refused
    pub mark_short : (marks partners marks' partners' : List ℕ) (r : DzyCounts) → Mark rules bundle marks partners r marks' partners'
        → (length marks < length a.facts) ⊎ (length partners < length a.facts) → By 9 r.refused
    pub write_kept : (out out' : List ℕ) (r : DzyLength) → WriteKept rules bundle out r out'
        → (facts : List Fact) → KeptFacts a facts → length (bundle_of facts) ≤ length out → Done r.refused
    pub write_kept_short : (out out' : List ℕ) (r : DzyLength) → WriteKept rules bundle out r out'
        → (facts : List Fact) → KeptFacts a facts → length out < length (bundle_of facts) → By 9 r.refused
    pub records : (row row' : List Record) (r : DzyLength) → Records rules bundle row r row' → length a.facts ≤ length row → Done r.refused
    pub records_short : (row row' : List Record) (r : DzyLength) → Records rules bundle row r row'
        → length row < length a.facts → By 9 r.refused
    -- 10: "fact number not below the count"
    pub ask : (k : ℕ) (r : DzyAsked) → Ask rules bundle k r → k < length a.facts → Done r.refused
    pub ask_over : (k : ℕ) (r : DzyAsked) → Ask rules bundle k r → length a.facts ≤ k → By 10 r.refused
    -- "Question: code (5), then things (3), left to right."
    pub has : (code thing : ℕ) (r : DzyAnswer) → Has rules bundle code thing r
        → concept_declared a.head.concepts a.head.roles code ≡ true → thing ≤ most_thing → Done r.refused
    pub has_undeclared : (code thing : ℕ) (r : DzyAnswer) → Has rules bundle code thing r
        → concept_declared a.head.concepts a.head.roles code ≡ false → By 5 r.refused
    pub has_over : (code thing : ℕ) (r : DzyAnswer) → Has rules bundle code thing r
        → concept_declared a.head.concepts a.head.roles code ≡ true → most_thing < thing → By 3 r.refused
    pub joins : (code from to : ℕ) (r : DzyAnswer) → Joins rules bundle code from to r
        → role_declared a.head.roles code ≡ true → from ≤ most_thing → to ≤ most_thing → Done r.refused
    pub joins_undeclared : (code from to : ℕ) (r : DzyAnswer) → Joins rules bundle code from to r
        → role_declared a.head.roles code ≡ false → By 5 r.refused
    pub joins_over : (code from to : ℕ) (r : DzyAnswer) → Joins rules bundle code from to r
        → role_declared a.head.roles code ≡ true → (most_thing < from) ⊎ (most_thing < to) → By 3 r.refused
    -- nothing else is refused
    pub count : (r : DzyCounts) → Count rules bundle r → Done r.refused
    pub reader_start_lem : (r : DzyStart) → ReaderStart rules bundle r → Done r.refused

-- ---- Demand 2. "Marks, counts, partners and answers equal the IAR cleaning of DL-Lite, as document 01 condenses it from the published papers."
module _ {rules bundle : List ℕ} (a : BothRead rules bundle) where
  -- a fact's mark and partner
  pub record FactAsSaid (f : Fact) (mark partner : ℕ) : Type 0 where
    pub mark_is : MarkIs itself (site a) a.facts f mark
    pub partner_is : PartnerIs itself (site a) a.facts f mark partner

  -- "Counts: of facts, and of each mark, each the number of facts with that property; the three marks add up to the facts."
  pub record CountsAsSaid (r : DzyCounts) : Type 0 where
    pub all : r.facts ≡ length a.facts
    pub kept : HowMany (Kept itself (site a) a.facts) a.facts r.kept
    pub alone : HowMany (Alone itself (site a)) a.facts r.alone
    pub disputed : HowMany (Disputed itself (site a) a.facts) a.facts r.disputed
    pub sum : r.facts ≡ r.kept + r.alone + r.disputed

  pub record AsDocument01 : Type 0 where
    pub mark : (marks partners marks' partners' : List ℕ) (r : DzyCounts) → Mark rules bundle marks partners r marks' partners' → Done r.refused
        → (k : ℕ) (f : Fact) → Numbered a.facts k f → FactAsSaid f (get_or marks' k 0) (get_or partners' k 0)
    pub mark_counts : (marks partners marks' partners' : List ℕ) (r : DzyCounts) → Mark rules bundle marks partners r marks' partners' → Done r.refused → CountsAsSaid r
    pub count : (r : DzyCounts) → Count rules bundle r → CountsAsSaid r
    pub ask : (k : ℕ) (r : DzyAsked) → Ask rules bundle k r → (f : Fact) → Numbered a.facts k f → Done r.refused × FactAsSaid f r.mark r.partner
    pub has : (code thing : ℕ) (r : DzyAnswer) → Has rules bundle code thing r → Done r.refused
        → AnswerIs itself (site a) a.facts (typ (concept (concept_of code)) thing thing) r.yes r.fact
    pub joins : (code from to : ℕ) (r : DzyAnswer) → Joins rules bundle code from to r → Done r.refused
        → AnswerIs itself (site a) a.facts (typ (role (role_of code)) from to) r.yes r.fact
    -- "Writing the kept facts gives their bundle and its length"
    pub write_kept : (out out' : List ℕ) (r : DzyLength) → WriteKept rules bundle out r out' → Done r.refused
        → (facts : List Fact) → KeptFacts a facts → (r ≡ shown_length (Ok (length (bundle_of facts)))) × (out' ≡ laid out 0 (Ok (bundle_of facts)))

-- every element is a byte, as all that C lends as bytes is
abbrev pub Bytes : List ℕ → Type 0
Bytes s = (i : ℕ) → get_or s i 0 < 256

-- "Within the limits, each ascending list of declared facts has one bundle: written facts read back the same, and an accepted bundle writes back to
-- the same bytes. Reason: two offices compare bundles by their bytes."
pub record RoundTrips : Type 0 where
  pub written_read : (h : Head) → h.roles ≤ most_roles → (facts : List Fact) → LawfulFacts h facts → read_bundle h (bundle_of facts) ≡ Ok facts
  pub read_written : (s : List ℕ) → Bytes s → (h : Head) (facts : List Fact) → read_bundle h s ≡ Ok facts → s ≡ bundle_of facts
  -- each such list, handed in as records, is written as its bundle
  pub list_written : (rules : List ℕ) (h : Head) → check_rules rules ≡ Ok h → (row : List Record) → LawfulFacts h (map fact_of row)
      → (out out' : List ℕ) (w : DzyLength) → WriteRecords rules row out w out' → length (bundle_of (map fact_of row)) ≤ length out
      → (w ≡ shown_length (Ok (length (bundle_of (map fact_of row))))) × (out' ≡ laid out 0 (Ok (bundle_of (map fact_of row))))
  -- records that were handed out are written back as the same bundle
  pub records_back : (rules bundle : List ℕ) → Bytes bundle → (row row' : List Record) (r : DzyLength) → Records rules bundle row r row' → Done r.refused
      → (out out' : List ℕ) (w : DzyLength) → WriteRecords rules (take r.length row') out w out' → length bundle ≤ length out
      → (w ≡ shown_length (Ok (length bundle))) × (out' ≡ laid out 0 (Ok bundle))
  -- a row that was written is handed out as itself
  pub rows_back : (rules : List ℕ) (row : List Record) (out out' : List ℕ) (w : DzyLength) → WriteRecords rules row out w out' → Done w.refused
      → (lent lent' : List Record) (r : DzyLength) → Records rules (take w.length out') lent r lent' → length row ≤ length lent
      → (r ≡ shown_length (Ok (length row))) × (lent' ≡ laid lent 0 (Ok row))

-- so many steps of a reader, each as its promise says: what they yield, and the reader afterwards
pub data Walked : Reader → List DzyYield → Reader → Type 0 where
  stop : {here : Reader} → Walked here [] here
  step : {here next end : Reader} {y : DzyYield} {ys : List DzyYield} → ReaderNext here y next → Walked next ys end → Walked here (y ∷ ys) end

-- what a reader of these facts yields: them, "in order", and then so often that it is done
abbrev pub yields : List Fact → ℕ → List DzyYield
yields facts more = map (λ f. shown_found (Some f)) facts ++ replicate more (shown_found None)

-- document 01: "It starts on an accepted bundle and yields its facts, in order", however many steps are made
pub record ReaderYields : Type 0 where
  pub in_order : {rules bundle : List ℕ} (a : BothRead rules bundle) (r : DzyStart) → ReaderStart rules bundle r → (first end : Reader) (ys : List DzyYield) → first.src.now ≡ bundle
      → first.at ≡ r.at → Walked first ys end → ys ≡ take (length ys) (yields a.facts (length ys))

-- ---- Demand 3. "For accepted rules and an accepted bundle: call a set of its facts consistent if some world, perhaps without end, satisfies the rules
-- and these facts, different device numbers being different things." That is `Consistent`.
module _ {rules bundle : List ℕ} (a : BothRead rules bundle) where
  -- a fact's mark and partner, against worlds
  pub record FactByWorlds (f : Fact) (mark partner : ℕ) : Type 1 where
    -- "A fact is dropped exactly if some consistent set of the bundle's facts, to which no further fact of the bundle can be added consistently, leaves it
    -- out."
    pub dropped : (mark ≡ 0 → ⊥) ↔ LeftOut itself (site a) a.facts f
    -- document 01's "1 alone": no world by itself
    pub alone : (mark ≡ 1) ↔ (Consistent itself (site a) (f ∷ []) → ⊥)
    -- its "2 disputed": the partner is the lowest-numbered fact with which it has no world, though each has one
    pub disputed : mark ≡ 2 → LowestConflict itself (site a) a.facts f partner

  pub record WorldsDecide : Type 1 where
    pub mark : (marks partners marks' partners' : List ℕ) (r : DzyCounts) → Mark rules bundle marks partners r marks' partners' → Done r.refused
        → (k : ℕ) (f : Fact) → Numbered a.facts k f → FactByWorlds f (get_or marks' k 0) (get_or partners' k 0)
    pub ask : (k : ℕ) (r : DzyAsked) → Ask rules bundle k r → (f : Fact) → Numbered a.facts k f → FactByWorlds f r.mark r.partner
    -- "The kept facts are consistent": there is one list of them, and what is written reads back as it
    pub kept : (facts : List Fact) → KeptFacts a facts → Consistent itself (site a) facts
    pub kept_are : (facts : List Fact) × KeptFacts a facts
    pub write_kept : (out out' : List ℕ) (r : DzyLength) → WriteKept rules bundle out r out' → Done r.refused
        → (facts : List Fact) → KeptFacts a facts → read_bundle a.head (take r.length out') ≡ Ok facts
    -- "and a question is answered yes exactly if it holds in every world of the rules and the kept facts"
    pub has : (code thing : ℕ) (r : DzyAnswer) → Has rules bundle code thing r → Done r.refused
        → (facts : List Fact) → KeptFacts a facts → (r.yes ≡ 1) ↔ Always itself (site a) facts (λ w. Is w (concept_of code) (w.thing thing))
    pub joins : (code from to : ℕ) (r : DzyAnswer) → Joins rules bundle code from to r → Done r.refused
        → (facts : List Fact) → KeptFacts a facts → (r.yes ≡ 1) ↔ Always itself (site a) facts (λ w. Joined w (role_of code) (w.thing from) (w.thing to))

-- all three
pub record Demands : Type 2 where
  pub face : Face
  pub one_answer : (rules bundle : List ℕ) → OneAnswer rules bundle
  pub writes_nothing : (rules bundle : List ℕ) → WritesNothing rules bundle
  pub read_or_refused : (rules bundle : List ℕ) → ReadOrRefused rules bundle
  pub refuses_exactly : {rules bundle : List ℕ} (a : BothRead rules bundle) → RefusesExactly a
  pub over_limits : (rules bundle : List ℕ) → OverLimits rules bundle
  pub as_document_01 : {rules bundle : List ℕ} (a : BothRead rules bundle) → AsDocument01 a
  pub round_trips : RoundTrips
  pub reader_yields : ReaderYields
  pub worlds_decide : {rules bundle : List ℕ} (a : BothRead rules bundle) → WorldsDecide a
