-- A session is refused where one of its sizes is out of range or, behind these, an owner; else it opens.
use Rattle.std.proofs.Common.{true, false}
use Rattle.wire.proofs.Headers.{Opens, refused, refused_owners, admitted, tested}
use borrow.Author.Rules.{rules}
use native.Mathlib.Omega.{arith}
use Rattle.wire.proofs.read_header.Goals as goal

pub returns-in_default : goal.returns-in_default
returns-in_default c = refused c.args.session.now (λ h. omega arith)

pub returns-then-session-gt-MAX_SESSION : goal.returns-then-session-gt-MAX_SESSION
returns-then-session-gt-MAX_SESSION c = refused c.args.session.now (λ h. search rules)

pub returns-then-n-lt1 : goal.returns-then-n-lt1
returns-then-n-lt1 c = refused c.args.session.now (λ h. search rules)

pub returns-then-not-owners_below : goal.returns-then-not-owners_below
returns-then-not-owners_below c =
    let b = c.args.session.now in
    let h : Opens b = search rules in
    refused_owners b h (tested b h false c.if-not-owners_below.ensures)

pub returns : goal.returns
returns c =
    let b = c.args.session.now in
    let h : Opens b = search rules in
    admitted b h (tested b h true c.if-not-owners_below.ensures)
