-- What a number says to a host: the macros of include/cusphewa.h, and the answer that is taken apart by them.
use Rattle.std.specs.Prelude.{ℕ, ◌/◌, ◌%◌, ◌^◌, min, cond, [], ◌∷◌, get_or, eqb}
use Rattle.rules.specs.Steps.{Rule, x_granted, x_waiting, counter_behind, valid, invalid, cause, accepted, content_is, took, commits, second_run}
use Rattle.rules.specs.Calls as calls
use Rattle.rules.specs.Calls.{no_command, answers, refusal}
use Rattle.rules.specs.Writing as lists
use Rattle.codes.specs.Codes.{last_place}

-- ---- The macros

abbrev pub kind : ℕ → ℕ
kind c = c / 2 ^ 48

abbrev pub value : ℕ → ℕ
value c = c / 2 ^ 8 % 2 ^ 40

abbrev pub number : ℕ → ℕ
number c = c % 2 ^ 8

-- of a TAKE
abbrev pub save : ℕ → ℕ
save c = c / 2 ^ 8 % 2 ^ 16

abbrev pub sheet : ℕ → ℕ
sheet c = c / 2 ^ 24 % 2 ^ 16

abbrev pub rule_numbered : ℕ → Rule
rule_numbered n = cond (eqb n 1) x_granted (cond (eqb n 2) x_waiting counter_behind)

abbrev pub rule : ℕ → Rule
rule c = rule_numbered (number c)

-- ---- Answers

-- by its kind: NO_COMMAND, ACCEPTED, CONTENT, TAKE_VALID, TAKE_INVALID, COMMITTED, SECOND_RUN; from 7 on REFUSED
unfoldable pub answer_of : ℕ → calls.Reply
answer_of c =
    get_or
    (no_command
    ∷ answers accepted
    ∷ answers (content_is (value c))
    ∷ answers (took (save c) valid)
    ∷ answers (took (save c) (invalid (cause (sheet c) (rule c))))
    ∷ answers commits
    ∷ answers second_run
    ∷ [])
    (kind c)
    (refusal (value c) (number c))

-- ---- Calls that write into a room

-- 8, WRITTEN, with the size; 9, LISTED, with the counts of nodes, sheets and steps; any other kind is REFUSED
unfoldable pub outcome_in : ℕ → lists.Outcome
outcome_in c =
    cond (eqb (kind c) 8)
    (lists.wrote (value c))
    (cond (eqb (kind c) 9)
    (lists.listed (value c / 2 ^ 32) (value c / 2 ^ 16 % 2 ^ 16) (value c % 2 ^ 16))
    (lists.refuse_with (lists.at (value c) (number c))))

-- a place above the last one is told as the last one
abbrev pub as_told : lists.Outcome → lists.Outcome
as_told (lists.wrote size) = lists.wrote size
as_told (lists.listed n m q) = lists.listed n m q
as_told (lists.refuse_with r) = lists.refuse_with (lists.at (min r.place last_place) r.number)

-- ---- Parts of a session

abbrev pub part_in : ℕ → calls.Part
part_in c = record { from = c / 2 ^ 32; size = c % 2 ^ 32 }
