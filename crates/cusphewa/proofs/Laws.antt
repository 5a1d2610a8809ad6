-- The calls' needs, each as one law in plain variables.
use Prim.Native.Nat.{ℕ, ◌+◌, ◌-◌, ◌*◌, ◌/◌, ◌%◌, ◌^◌, ◌<◌}
use mathlib.Core.Path.{◌≡◌, refl, sym, ap, ◌∙◌}
use mathlib.Core.List.{List}
use native.Mathlib.Omega.{arith}
use lib.ListN.{length, take, drop}
use Rattle.std.specs.Prelude.{Result, Ok, Err, Option, None}
use Rattle.std.specs.Prelude as std
use Rattle.rules.specs.Calls as calls
use Rattle.rules.specs.Causes.{WhyFailed}
use Rattle.rules.specs.Ordered.{AlwaysOrdered}
use Rattle.rules.proofs.Causes.{why_failed}
use Rattle.rules.proofs.Ordered.{ordered}
use Rattle.rules.proofs.Sessions.{stop_final, reply_final, stop_unopened, reply_unopened}
use Rattle.refusals.specs.declared.Refusal.TheVariants.{BadHeader}
use Rattle.refusals.specs.declared.Refused.{Refused}
use Rattle.wire.specs.declared.Header.{Header}
use Rattle.wire.specs.Meaning.{opened}
use Rattle.wire.proofs.Headers.{opens_has}
use Rattle.wire.proofs.Opening.{opening, unopened}
use Rattle.session.specs.declared.Reply.{Reply}
use Rattle.session.specs.declared.Ended.{Ended}
use Rattle.session.specs.Meaning.{stop_at, last_of, reply_of}
use Rattle.session.specs.Carried.{Answered}
use Rattle.codes.specs.Codes.{answer_code, NearReply}
use Rattle.codes.specs.Decoding.{answer_of, part_in}
use Rattle.cusphewa.specs.Codes.{part_code, PartOf}

-- ---- The answer

module _ (b : List ℕ) (h : Header) (e : opened b ≡ std.Some h) (r : Ended) (v : Answered b r) where
  stops_at : stop_at b r.stop ≡ calls.stop b
  stops_at = let o = opening b h e in sym (stop_final b o.opened_well ∙ v.stops)

  replies : calls.reply b ≡ Rattle.rules.proofs.Sessions.reply_of (stop_at b r.stop) (last_of r.last)
  replies = let o = opening b h e in reply_final b o.opened_well ∙ rw (v.stops, v.replies)

  pub replies_last : {u : Unit} → r.stop ≡ Ok u → reply_of (Ok r.last) ≡ calls.reply b
  replies_last q = sym (replies ∙ rw q)

  module _ (x : Refused) (q : r.stop ≡ Err x) where
    pub replies_refused : reply_of (Err x) ≡ calls.reply b
    replies_refused = sym (replies ∙ rw q)

    within : x.place < length b
    within = rw q at v.within

    pub place_near : NearReply (Err x)
    place_near = let o = opening b h e in omega (arith, within, (opens_has b o.opened_well).0.size)

-- ---- Refusal 1

module _ (b : List ℕ) (e : opened b ≡ None) where
  pub reply_bad : reply_of (Err (record { place = 0; why = BadHeader })) ≡ calls.reply b
  reply_bad = sym (reply_unopened b (unopened b e))

-- ---- The part shown

pub part_bad : (b : List ℕ) → opened b ≡ None → PartOf b 0 0
unfolding calls.part
part_bad b e = record { part = rw (stop_unopened b (unopened b e)); within = omega arith; near = omega arith }

module _ (b : List ℕ) (h : Header) (e : opened b ≡ std.Some h) (r : Ended) (v : Answered b r) where
  pub part_end : {u : Unit} → r.stop ≡ Ok u → PartOf b (length b) 0
  unfolding calls.part
  part_end q = let o = opening b h e in record { part = rw (← stops_at b h e r v, q); within = omega arith; near = omega (arith, (opens_has b o.opened_well).0.size) }

  pub part_refused : (x : Refused) → r.stop ≡ Err x → PartOf b x.place r.shown
  unfolding calls.part
  part_refused x q =
      let o = opening b h e in
      let y = rw q at v.shown in
      let l = y.1 in
      record {
        part = rw (← stops_at b h e r v, q) (ap (λ (n : ℕ). record { from = x.place; size = n }) y.0);
        within = l;
        near = omega (arith, (opens_has b o.opened_well).0.size);
      }

-- the number of a part, which the host reads as that part
abbrev pub PartTold : ℕ → calls.Part → Type 0
PartTold c p = (c ≡ part_code p) × (part_in c ≡ p)

pub part_told : {c : ℕ} (p : calls.Part) → p.size < 4294967296 → c ≡ part_code p → PartTold c p
part_told p h e =
    let f : part_code p / 2 ^ 32 ≡ p.from = omega arith in
    let s : part_code p % 2 ^ 32 ≡ p.size = omega arith in
    rw e (refl, rw (f, s))

module _ {b : List ℕ} {from size : ℕ} (p : PartOf b from size) where
  pub shown_there : take (from + size - from) (drop from b) ≡ calls.shown b
  shown_there = let m : from + size - from ≡ size = omega arith in rw (← p.part, m)

  pub part_coded : PartTold (from * 4294967296 + size) (calls.part b)
  part_coded = let n = p.near in rw (← p.part) (part_told (record { from = from; size = size }) (omega arith) refl)

pub told : (b : List ℕ) (r : Result (Option Reply) Refused) {n : ℕ} → reply_of r ≡ calls.reply b → (n ≡ answer_code (reply_of r)) × (answer_of n ≡ reply_of r)
    → (n ≡ answer_code (calls.reply b)) × ((answer_of n ≡ calls.reply b) × (WhyFailed × AlwaysOrdered))
told b r e c = (c.0 ∙ ap answer_code e, (c.1 ∙ e, (why_failed, ordered)))
