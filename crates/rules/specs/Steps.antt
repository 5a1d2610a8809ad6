-- "The step rules" and "Refused steps": for each command its tests with their refusal numbers, its effect and its answer.
use Rattle.std.specs.Prelude.{ℕ, suc, Bool, true, false, not, ◌&&◌, ◌||◌, cond, List, [], ◌∷◌, ◌++◌, length, eqb, ltb}
use Rattle.std.proofs.Math.Option.{Option, none, some, map}
use Rattle.rules.specs.Table.{upd, upd2, row, all, any, first_below}
use Rattle.rules.specs.Bytes.{Operand, save, sheet, node, limit, Command, Begin, Read, Write, Submit, Take, Decide, Apply, GiveUp}
use Rattle.rules.specs.State.{Sheet, store, Phase, first, submitted, second, committed, dropped, Mark, absent, copied, written, Claim, unclaimed, shared, exclusive, Tally, State, is_unused, is_first, is_second, is_submitted, is_committed, running, over, has_copy, is_written, claims, is_x, joined_claim, wide, at, is_last}

-- ---- Queues: lists of saves, first come first

abbrev pub mem : ℕ → List ℕ → Bool
mem t [] = false
mem t (u ∷ q) = eqb u t || mem t q

-- some save of the list passes the test
abbrev pub holds : (ℕ → Bool) → List ℕ → Bool
holds x [] = false
holds x (u ∷ q) = x u || holds x q

-- what stands before save t
abbrev pub before : ℕ → List ℕ → List ℕ
before t [] = []
before t (u ∷ q) = cond (eqb u t) [] (u ∷ before t q)

abbrev pub without : ℕ → List ℕ → List ℕ
without t [] = []
without t (u ∷ q) = cond (eqb u t) (without t q) (u ∷ without t q)

abbrev pub empty : List ℕ → Bool
empty [] = true
empty (u ∷ q) = false

-- the front entry passes the test
abbrev pub at_front : (ℕ → Bool) → List ℕ → Bool
at_front x [] = false
at_front x (u ∷ q) = x u

-- save u's entry at sheet k is an X
unfoldable pub x_on : (ℕ → ℕ → Claim) → ℕ → ℕ → Bool
x_on claim k u = is_x (claim u k)

-- ---- Granting

-- Granting (document 01's term). An S entry is granted when no X stands before it, an X entry when it stands first. The source leaves "conflict" with a waiting
-- request open; this is the reading taken. A sheet that is not claimed holds nobody up.
abbrev pub granted_as : Claim → (x : ℕ → Bool) (ahead : List ℕ) → Bool
granted_as unclaimed x ahead = true
granted_as shared x ahead = not (holds x ahead)
granted_as exclusive x ahead = empty ahead

-- save t's entry at sheet k
abbrev pub granted : State → ℕ → ℕ → Bool
granted s t k = granted_as (s.claim t k) (x_on s.claim k) (before t (s.queue k))

-- ---- What the tests ask

-- node n owns sheet k
abbrev pub owns : State → ℕ → ℕ → Bool
owns s n k = eqb (s.header.owner k) n

-- node n has taken save t, by its last place
abbrev pub has_taken : State → ℕ → ℕ → Bool
has_taken s n t = ltb (s.place t) (s.taken n)

-- the save at the next place for node n
abbrev pub next : State → ℕ → ℕ
next s n = at s.order (s.taken n)

-- the next place for node n is the last one of its save
abbrev pub next_is_last : State → ℕ → Bool
next_is_last s n = is_last s.order s.place (s.taken n)

-- the counter is behind at sheet k: save t has a copy, whose WCT is below the sheet's. "TAKE compares the WCT only where a copy exists."
abbrev pub behind : State → ℕ → ℕ → Bool
behind s t k = has_copy (s.mark t k) && ltb (s.copy t k).wct (s.sheet k).wct

-- TAKE marks the save failed at claimed sheet k: its queue holds an X, granted or waiting, or the counter is behind
abbrev pub fails_at : State → ℕ → ℕ → Bool
fails_at s t k = claims (s.claim t k) && (holds (x_on s.claim k) (s.queue k) || behind s t k)

-- node n finds save t invalid
abbrev pub finds_invalid : State → ℕ → ℕ → Bool
finds_invalid s n t = any s.header.sheets (λ k. owns s n k && fails_at s t k)

-- save t has an entry at node n
abbrev pub has_entry : State → ℕ → ℕ → Bool
has_entry s n t = any s.header.sheets (λ k. owns s n k && mem t (s.queue k))

-- ---- Refusals

-- A test with the number of the refusal that is given where it fails.
pub record Test : Type 0 where
  pub passes : Bool
  pub number : ℕ

pub data Checked : Type 0 where
  pass : Checked
  refuse : (number : ℕ) → Checked

-- The first test that fails gives the refusal.
abbrev pub first_failed : List Test → Checked
first_failed [] = pass
first_failed (g ∷ gs) = cond g.passes (first_failed gs) (refuse g.number)

abbrev test : Bool → ℕ → Test
test b n = record { passes = b; number = n }

-- 4: save above 31, node not below N, sheet not below M
abbrev operand : State → Operand → ℕ → Test
operand s o v = test (ltb v (limit s.header.nodes s.header.sheets o)) 4

-- "13 for any command but BEGIN on an unused save, 14 for any command but APPLY on a committed or dropped save"
abbrev begun : Phase → Test
begun p = test (not (is_unused p)) 13

abbrev not_over : Phase → Test
not_over p = test (not (over p)) 14

-- In the order 2, 3, 4, 13, 14, 5, 6, 7, 9, 10, 11: document 01's, with 13 and 14 "tested just before 5", and without 8, which "never occurs any
-- more" (document 02 [7]). 2 and 3 are given where the bytes are read.
abbrev pub tests : State → Command → List Test
tests s (Begin t) = operand s save t ∷ not_over (s.phase t) ∷ test (is_unused (s.phase t)) 5 ∷ []
tests s (Read t k) =
    operand s save t ∷ operand s sheet k ∷ begun (s.phase t) ∷ not_over (s.phase t) ∷ test (running (s.phase t)) 5
    ∷ test (is_second (s.phase t) || (has_copy (s.mark t k) || not (at_front (x_on s.claim k) (s.queue k)))) 6 ∷ []
tests s (Write t k v) =
    operand s save t ∷ operand s sheet k ∷ begun (s.phase t) ∷ not_over (s.phase t) ∷ test (running (s.phase t)) 5
    ∷ test (has_copy (s.mark t k)) 7 ∷ []
tests s (Submit t) = operand s save t ∷ begun (s.phase t) ∷ not_over (s.phase t) ∷ test (running (s.phase t)) 5 ∷ []
tests s (Take n) = operand s node n ∷ test (ltb (s.taken n) (length s.order)) 9 ∷ []
tests s (Decide t) =
    operand s save t ∷ begun (s.phase t) ∷ not_over (s.phase t) ∷ test (is_submitted (s.phase t)) 5
    ∷ test (all s.header.sheets (λ k. not (claims (s.claim t k)) || has_taken s (s.header.owner k) t)) 10
    ∷ test (all s.header.sheets (λ k. granted s t k)) 10 ∷ []
tests s (Apply n t) =
    operand s node n ∷ operand s save t ∷ begun (s.phase t) ∷ test (over (s.phase t)) 5 ∷ test (has_entry s n t) 11 ∷ []
tests s (GiveUp t) = operand s save t ∷ begun (s.phase t) ∷ not_over (s.phase t) ∷ test (running (s.phase t)) 5 ∷ []

abbrev pub check : State → Command → Checked
check s c = first_failed (tests s c)

-- ---- Effects

-- a command accepted; one that commits a save from its first run, from a later one
abbrev pub counted : Tally → Tally
counted a = record { accepted = suc a.accepted; from_first = a.from_first; from_second = a.from_second }

abbrev pub counted_first : Tally → Tally
counted_first a = record { accepted = suc a.accepted; from_first = suc a.from_first; from_second = a.from_second }

abbrev pub counted_second : Tally → Tally
counted_second a = record { accepted = suc a.accepted; from_first = a.from_first; from_second = suc a.from_second }

abbrev pub counted_commit : (later : Bool) → Tally → Tally
counted_commit false a = counted_first a
counted_commit true a = counted_second a

-- saves with new phases, marks and counts of runs
abbrev pub with_saves : State → (ℕ → Phase) → (ℕ → ℕ → Mark) → (ℕ → ℕ) → Tally → State
with_saves s phase mark runs tally = record {
  header = s.header;
  sheet = s.sheet;
  queue = s.queue;
  phase = phase;
  mark = mark;
  copy = s.copy;
  claim = s.claim;
  failed = s.failed;
  runs = runs;
  order = s.order;
  place = s.place;
  taken = s.taken;
  tally = tally;
}

abbrev pub with_phase : State → ℕ → Phase → Tally → State
with_phase s t p tally = with_saves s (upd s.phase t p) s.mark s.runs tally

-- save t enters a run
abbrev pub enter_run : State → ℕ → Phase → (ℕ → ℕ → Mark) → State
enter_run s t p mark = with_saves s (upd s.phase t p) mark (upd s.runs t (suc (s.runs t))) (counted s.tally)

-- save t's own copy of sheet k
abbrev pub with_copy : State → ℕ → ℕ → Mark → Sheet → State
with_copy s t k mark copy = record {
  header = s.header;
  sheet = s.sheet;
  queue = s.queue;
  phase = s.phase;
  mark = upd2 s.mark t k mark;
  copy = upd2 s.copy t k copy;
  claim = s.claim;
  failed = s.failed;
  runs = s.runs;
  order = s.order;
  place = s.place;
  taken = s.taken;
  tally = counted s.tally;
}

-- READ: a save with its own copy keeps it; otherwise the owner's content and WCT are copied
abbrev pub read_mark : Mark → Mark
read_mark absent = copied
read_mark copied = copied
read_mark written = written

abbrev pub read_copy : Mark → (own owner's : Sheet) → Sheet
read_copy absent own owner's = owner's
read_copy copied own owner's = own
read_copy written own owner's = own

-- SUBMIT of a first run, whose claim is empty, and of a wide one: the entries at all nodes are removed, claim and copies are joined
-- into the new claim, the failed mark is cleared, and the save takes a new place at the end of the order
abbrev pub join_order : State → ℕ → State
join_order s t = record {
  header = s.header;
  sheet = s.sheet;
  queue = λ k. without t (s.queue k);
  phase = upd s.phase t submitted;
  mark = s.mark;
  copy = s.copy;
  claim = joined_claim s.claim s.mark t;
  failed = upd s.failed t false;
  runs = s.runs;
  order = s.order ++ t ∷ [];
  place = upd s.place t (length s.order);
  taken = s.taken;
  tally = counted s.tally;
}

-- else a later run within its claim commits
abbrev pub submit_save : (joins : Bool) → State → ℕ → State
submit_save true s t = join_order s t
submit_save false s t = with_phase s t committed (counted_second s.tally)

-- TAKE at a last place: an entry is added at the end of the queue of each claimed sheet that node n owns, also after one that fails
abbrev pub take_save : State → ℕ → ℕ → State
take_save s n t = record {
  header = s.header;
  sheet = s.sheet;
  queue = λ k. cond (owns s n k && claims (s.claim t k)) (s.queue k ++ t ∷ []) (s.queue k);
  phase = s.phase;
  mark = s.mark;
  copy = s.copy;
  claim = s.claim;
  failed = upd s.failed t (s.failed t || finds_invalid s n t);
  runs = s.runs;
  order = s.order;
  place = s.place;
  taken = upd s.taken n (suc (s.taken n));
  tally = counted s.tally;
}

-- at a former place the node only moves on
abbrev pub move_on : State → ℕ → State
move_on s n = record {
  header = s.header;
  sheet = s.sheet;
  queue = s.queue;
  phase = s.phase;
  mark = s.mark;
  copy = s.copy;
  claim = s.claim;
  failed = s.failed;
  runs = s.runs;
  order = s.order;
  place = s.place;
  taken = upd s.taken n (suc (s.taken n));
  tally = counted s.tally;
}

abbrev pub take_next : (last : Bool) → State → ℕ → State
take_next true s n = take_save s n (next s n)
take_next false s n = move_on s n

-- DECIDE. Not failed: committed. Failed: the copies are cleared, the claim and the entries stay, the next run begins.
abbrev pub decide_save : (failed : Bool) → State → ℕ → State
decide_save false s t = with_phase s t committed (counted_commit (ltb 1 (s.runs t)) s.tally)
decide_save true s t = enter_run s t second (row s.mark t (λ k. absent))

-- APPLY: sheet k of node n was written in the last run of a committed t
abbrev pub receives : State → ℕ → ℕ → ℕ → Bool
receives s n t k = owns s n k && (is_committed (s.phase t) && is_written (s.mark t k))

abbrev pub apply_save : State → ℕ → ℕ → State
apply_save s n t = record {
  header = s.header;
  sheet = λ k. cond (receives s n t k) (store (s.sheet k) (s.copy t k).content) (s.sheet k);
  queue = λ k. cond (owns s n k) (without t (s.queue k)) (s.queue k);
  phase = s.phase;
  mark = s.mark;
  copy = s.copy;
  claim = s.claim;
  failed = s.failed;
  runs = s.runs;
  order = s.order;
  place = s.place;
  taken = s.taken;
  tally = counted s.tally;
}

abbrev pub effect : State → Command → State
effect s (Begin t) = enter_run s t first s.mark
effect s (Read t k) = with_copy s t k (read_mark (s.mark t k)) (read_copy (s.mark t k) (s.copy t k) (s.sheet k))
effect s (Write t k v) = with_copy s t k written (record { content = v; wct = (s.copy t k).wct })
effect s (Submit t) = submit_save (is_first (s.phase t) || wide s t) s t
effect s (Take n) = take_next (next_is_last s n) s n
effect s (Decide t) = decide_save (s.failed t) s t
effect s (Apply n t) = apply_save s n t
effect s (GiveUp t) = with_phase s t dropped (counted s.tally)

-- ---- Why the check failed

-- "The rules are: X granted, X waiting, counter behind."
pub data Rule : Type 0 where
  x_granted x_waiting counter_behind : Rule

-- a cause: "sheet and rule"
pub record Cause : Type 0 where
  pub sheet : ℕ
  pub rule : Rule

abbrev pub cause : ℕ → Rule → Cause
cause k r = record { sheet = k; rule = r }

-- "on one sheet the X comes before the counter: X granted where the queue's front entry is an X, else X waiting where it holds one"; else
-- counter behind
abbrev pub rule_met : (x_in_front x_in_queue behind : Bool) → Option Rule
rule_met true x b = some x_granted
rule_met false true b = some x_waiting
rule_met false false true = some counter_behind
rule_met false false false = none

-- what node n meets at sheet k, if it owns the sheet and save t claims it
abbrev pub cause_at : State → (n t k : ℕ) → Option Cause
cause_at s n t k =
    cond (owns s n k && claims (s.claim t k))
    (map (cause k) (rule_met (at_front (x_on s.claim k) (s.queue k)) (holds (x_on s.claim k) (s.queue k)) (behind s t k)))
    none

-- "the first cause it met": "sheets count in rising number"
abbrev pub first_cause : State → (n t : ℕ) → Option Cause
first_cause s n t = first_below s.header.sheets (cause_at s n t)

-- ---- Answers

-- "whether this node found it valid", and "where this node found the save invalid, the first cause it met"
pub data Verdict : Type 0 where
  valid : Verdict
  invalid : Cause → Verdict

-- READ the content, TAKE the save and the verdict, DECIDE the outcome, the others that they were accepted
pub data Answer : Type 0 where
  accepted : Answer
  content_is : (v : ℕ) → Answer
  took : (t : ℕ) → Verdict → Answer
  commits : Answer
  second_run : Answer

-- that there is a cause exactly where the save is found invalid is a law (Causes)
abbrev pub verdict : Option Cause → Verdict
verdict none = valid
verdict (some c) = invalid c

-- "At a former place a node .. finds the save valid."
abbrev pub found : (last : Bool) → Option Cause → Verdict
found true c = verdict c
found false c = valid

abbrev pub decision : (failed : Bool) → Answer
decision true = second_run
decision false = commits

abbrev pub answer : State → Command → Answer
answer s (Begin t) = accepted
answer s (Read t k) = content_is (read_copy (s.mark t k) (s.copy t k) (s.sheet k)).content
answer s (Write t k v) = accepted
answer s (Submit t) = accepted
answer s (Take n) = took (next s n) (found (next_is_last s n) (first_cause s n (next s n)))
answer s (Decide t) = decision (s.failed t)
answer s (Apply n t) = accepted
answer s (GiveUp t) = accepted

-- ---- A step, and a list of commands

pub data Result : Type 0 where
  answered : Answer → Result
  refused : (number : ℕ) → Result

pub record Stepped : Type 0 where
  pub state : State
  pub result : Result

abbrev pub step_by : Checked → State → Command → Stepped
step_by pass s c = record { state = effect s c; result = answered (answer s c) }
step_by (refuse n) s c = record { state = s; result = refused n }

-- One command. A refused one changes nothing.
abbrev pub step : State → Command → Stepped
step s c = step_by (check s c) s c

pub record Event : Type 0 where
  pub command : Command
  pub answer : Answer

-- the accepted commands with their answers, the state after them, and what ended the list
pub record Ran : Type 0 where
  pub events : List Event
  pub state : State
  pub end : Checked

abbrev pub prepend : Event → Ran → Ran
prepend e r = record { events = e ∷ r.events; state = r.state; end = r.end }

abbrev pub run_on : Result → Command → State → (State → Ran) → Ran
run_on (answered a) c s on = prepend (record { command = c; answer = a }) (on s)
run_on (refused n) c s on = record { events = []; state = s; end = refuse n }

-- The commands up to the end or the first refused one, each step from the state that the last one left.
unfoldable pub run : State → List Command → Ran
run s [] = record { events = []; state = s; end = pass }
run s (c ∷ cs) = run_on (step s c).result c (step s c).state (λ s'. run s' cs)
