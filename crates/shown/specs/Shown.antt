-- How C sees an answer: the refusal's number, side, place and item (number 0: not refused), and zeros in the fields that do not apply.
use Rattle.std.specs.Prelude.{ℕ, Option, Some, None, Ok, Err}
use Rattle.number.specs.Answer.{Answer, number_of, side_of}
use Rattle.number.specs.declared.refusal.Refusal.{Refusal}
use Rattle.site.specs.declared.fact.Fact.{Fact}
use Rattle.records.specs.Rows.{record_of}
use Rattle.records.specs.declared.record.Record.{Record}
use Rattle.clashes.specs.declared.answers.Counts.{Counts}
use Rattle.clashes.specs.declared.answers.Judged.{Judged}
use Rattle.clashes.specs.Judging.{mark_of, partner_of}
use Rattle.shown.specs.declared.shapes.DzyRefusal.{DzyRefusal}
use Rattle.shown.specs.declared.shapes.DzyCounts.{DzyCounts}
use Rattle.shown.specs.declared.shapes.DzyAsked.{DzyAsked}
use Rattle.shown.specs.declared.shapes.DzyAnswer.{DzyAnswer}
use Rattle.shown.specs.declared.shapes.DzyLength.{DzyLength}
use Rattle.shown.specs.declared.shapes.DzyStart.{DzyStart}
use Rattle.shown.specs.declared.shapes.DzyYield.{DzyYield}

-- no refusal
abbrev pub not_refused : DzyRefusal
not_refused = record { number = 0; side = 0; place = 0; item = 0 }

-- the item of a refusal that is about none: "65,535 in the header and after the last item"
abbrev pub no_item : ℕ
no_item = 65535

-- "the number of the item there (rule or fact; 65,535 in the header and after the last item) beside the byte place"
abbrev pub item_of : Option ℕ → ℕ
item_of (Some item) = item
item_of None = no_item

-- "A refusal gives number, side (..) and place", and "the number of the item there"
abbrev pub refused : Refusal → DzyRefusal
refused r = record { number = number_of r.fault; side = side_of r.side; place = r.place; item = item_of r.item }

-- "Counts: of facts, and of each mark"
abbrev pub shown_counts : Answer Counts → DzyCounts
shown_counts (Ok c) = record { refused = not_refused; facts = c.facts; kept = c.kept; alone = c.alone; disputed = c.disputed }
shown_counts (Err r) = record { refused = refused r; facts = 0; kept = 0; alone = 0; disputed = 0 }

-- "Asking about one fact number gives its mark and partner."
abbrev pub shown_asked : Answer Judged → DzyAsked
shown_asked (Ok j) = record { refused = not_refused; mark = mark_of j; partner = partner_of j }
shown_asked (Err r) = record { refused = refused r; mark = 0; partner = 0 }

-- "yes with the lowest-numbered kept fact (..); else no"
abbrev pub shown_reply : Option ℕ → DzyAnswer
shown_reply (Some n) = record { refused = not_refused; yes = 1; fact = n }
shown_reply None = record { refused = not_refused; yes = 0; fact = 0 }

-- a question's answer
abbrev pub shown_answer : Answer (Option ℕ) → DzyAnswer
shown_answer (Ok reply) = shown_reply reply
shown_answer (Err r) = record { refused = refused r; yes = 0; fact = 0 }

-- "gives their bundle and its length"; also how many rules, facts or records there are
abbrev pub shown_length : Answer ℕ → DzyLength
shown_length (Ok n) = record { refused = not_refused; length = n }
shown_length (Err r) = record { refused = refused r; length = 0 }

-- a reader's start, and what it yields: found 1 with the fact's record, or found 0 once it is done
abbrev pub shown_start : Answer ℕ → DzyStart
shown_start (Ok at) = record { refused = not_refused; at = at }
shown_start (Err r) = record { refused = refused r; at = 0 }

-- the record beside a refusal, and once the reader is done
abbrev pub no_record : Record
no_record = record { predicate = 0; subject = 0; object = 0 }

-- what a reader found
abbrev pub shown_found : Option Fact → DzyYield
shown_found (Some f) = record { refused = not_refused; found = 1; fact = record_of f }
shown_found None = record { refused = not_refused; found = 0; fact = no_record }

-- what a reader yields, or its refusal
abbrev pub shown_yield : Answer (Option Fact) → DzyYield
shown_yield (Ok found) = shown_found found
shown_yield (Err r) = record { refused = refused r; found = 0; fact = no_record }
