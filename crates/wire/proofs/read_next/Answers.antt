-- Each arm's line of the table computes; behind the last arm no line is left.
use mathlib.Core.Path.{refl}
use native.Mathlib.Omega.{arith}
use Rattle.wire.proofs.Front.{operand_bytes, rest_end, rest_none, rest_short, rest_long, behind, read_be, first_byte, second_byte, last_bytes}
use borrow.Author.Rules.{rules}
use Rattle.wire.proofs.read_next.Goals as goal

pub returns-in_default : goal.returns-in_default
returns-in_default c = rest_end c.args.rest.now (omega arith)

pub returns-in_default-operands : goal.returns-in_default-operands
unfolding operand_bytes
returns-in_default-operands c = rest_short c.args.rest.now c.in-len1-up.len_at_least 1 1 refl c.in-1.is c.in_default-operands.len_below

pub returns-in_default-operands-2 : goal.returns-in_default-operands-2
unfolding operand_bytes
returns-in_default-operands-2 c = rest_short c.args.rest.now c.in-len1-up.len_at_least 2 2 refl c.in-2.is c.in_default-operands-2.len_below

pub returns-in_default-operands-3 : goal.returns-in_default-operands-3
unfolding operand_bytes
returns-in_default-operands-3 c = rest_short c.args.rest.now c.in-len1-up.len_at_least 3 6 refl c.in-3.is c.in_default-operands-3.len_below

pub returns-in_default-operands-4 : goal.returns-in_default-operands-4
unfolding operand_bytes
returns-in_default-operands-4 c = rest_short c.args.rest.now c.in-len1-up.len_at_least 4 1 refl c.in-4.is c.in_default-operands-4.len_below

pub returns-in_default-operands-5 : goal.returns-in_default-operands-5
unfolding operand_bytes
returns-in_default-operands-5 c = rest_short c.args.rest.now c.in-len1-up.len_at_least 5 1 refl c.in-5.is c.in_default-operands-5.len_below

pub returns-in_default-operands-6 : goal.returns-in_default-operands-6
unfolding operand_bytes
returns-in_default-operands-6 c = rest_short c.args.rest.now c.in-len1-up.len_at_least 6 1 refl c.in-6.is c.in_default-operands-6.len_below

pub returns-in_default-operands-7 : goal.returns-in_default-operands-7
unfolding operand_bytes
returns-in_default-operands-7 c = rest_short c.args.rest.now c.in-len1-up.len_at_least 7 2 refl c.in-7.is c.in_default-operands-7.len_below

pub returns-in_default-operands-8 : goal.returns-in_default-operands-8
unfolding operand_bytes
returns-in_default-operands-8 c = rest_short c.args.rest.now c.in-len1-up.len_at_least 8 1 refl c.in-8.is c.in_default-operands-8.len_below

pub returns-in-len1-up-operands : goal.returns-in-len1-up-operands
unfolding operand_bytes
returns-in-len1-up-operands c = rw (← first_byte) (rest_long c.args.rest.now c.in-len1-up.len_at_least 1 1 refl c.in-1.is (omega arith) c.in-len1-up-operands.len_at_least)

pub returns-in-len2-up : goal.returns-in-len2-up
unfolding operand_bytes
returns-in-len2-up c = rw (← first_byte, ← second_byte) (rest_long c.args.rest.now c.in-len1-up.len_at_least 2 2 refl c.in-2.is (omega arith) c.in-len2-up.len_at_least)

pub returns-in-len6-up : goal.returns-in-len6-up
unfolding operand_bytes
returns-in-len6-up c =
    let b = c.args.rest.now in
    let r = rest_long b c.in-len1-up.len_at_least 3 6 refl c.in-3.is (omega arith) c.in-len6-up.len_at_least in
    rw (c.from_be_bytes-v.ensures, read_be) (rw (first_byte, second_byte, last_bytes (behind b) c.in-len6-up.len_at_least) at r)

pub returns-in-len1-up-operands-2 : goal.returns-in-len1-up-operands-2
unfolding operand_bytes
returns-in-len1-up-operands-2 c = rw (← first_byte) (rest_long c.args.rest.now c.in-len1-up.len_at_least 4 1 refl c.in-4.is (omega arith) c.in-len1-up-operands-2.len_at_least)

pub returns-in-len1-up-operands-3 : goal.returns-in-len1-up-operands-3
unfolding operand_bytes
returns-in-len1-up-operands-3 c = rw (← first_byte) (rest_long c.args.rest.now c.in-len1-up.len_at_least 5 1 refl c.in-5.is (omega arith) c.in-len1-up-operands-3.len_at_least)

pub returns-in-len1-up-operands-4 : goal.returns-in-len1-up-operands-4
unfolding operand_bytes
returns-in-len1-up-operands-4 c = rw (← first_byte) (rest_long c.args.rest.now c.in-len1-up.len_at_least 6 1 refl c.in-6.is (omega arith) c.in-len1-up-operands-4.len_at_least)

pub returns-in-len2-up-operands : goal.returns-in-len2-up-operands
unfolding operand_bytes
returns-in-len2-up-operands c = rw (← first_byte, ← second_byte) (rest_long c.args.rest.now c.in-len1-up.len_at_least 7 2 refl c.in-7.is (omega arith) c.in-len2-up-operands.len_at_least)

pub returns-in-len1-up-operands-5 : goal.returns-in-len1-up-operands-5
unfolding operand_bytes
returns-in-len1-up-operands-5 c = rw (← first_byte) (rest_long c.args.rest.now c.in-len1-up.len_at_least 8 1 refl c.in-8.is (omega arith) c.in-len1-up-operands-5.len_at_least)

pub returns-in_default-byte : goal.returns-in_default-byte
returns-in_default-byte c = rest_none c.args.rest.now c.in-len1-up.len_at_least (search rules)
