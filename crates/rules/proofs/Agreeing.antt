-- Reading and run agree on 1 to 4: a command's tests that give one of them are those of its operands, which reading puts too.
use Prim.Native.Nat.{ℕ, zero, suc, ◌^◌, ◌≤◌, ◌<◌}
use mathlib.Core.Path.{◌≡◌, refl, sym, ◌∙◌, subst}
use mathlib.Core.Bool.{Bool, true, false, ◌&&◌, ◌||◌, cond, true≢false, or-true, or-false}
use mathlib.Core.Logic.{◌⊎◌, inl, inr, ◌≢◌}
use mathlib.Core.List.{List, [], ◌∷◌}
use mathlib.Core.Option.{Option, none, some}
use native.Mathlib.Omega.{arith}
use native.Mathlib.Nat.{le_refl, pow-suc}
use lib.Dec.{eqb, ltb}
use lib.ListN.{length, take, drop, length-take}
use borrow.Author.Tests.{lt-ltb, ltb-true, eqb-true}
use Rattle.rules.specs.Bytes.{Header, header, header_size, opens, Operand, sheet, width, big_endian, widths, values, Command, Form, form_of, commands, front_by, read_front, Step, Stop, ended, stopped, Reading, more, read_from}
use Rattle.rules.specs.State.{State, fresh}
use Rattle.rules.specs.Steps.{Test, tests, first_failed, Checked, pass, refuse, check, effect, answer}
use Rattle.rules.specs.Calls.{Reply, no_command, answers, stop}
use Rattle.rules.specs.Writing.{Heading, Instruction, Refusal, at, operands_fit, form, Listing, steps, stops, also, numbers, instruction, list_by, list_from, session, refuses, listed_by, heading, read, Bytes}
use Rattle.rules.specs.Agreeing.{StopsBy, Agrees, AlwaysAgrees}
use Rattle.rules.proofs.Table.{bool, same?, and_l, and_r}
use Rattle.rules.proofs.Tests.{refuse_pass}
use Rattle.rules.proofs.Accepted.{same_header}
use Rattle.rules.proofs.Sessions.{final, final_ends, final_accepts, final_refuses, session_final, stop_final, stop_unopened}
use Rattle.rules.proofs.Numbers.{bytes_drop, bytes_take, number_below}
use Rattle.rules.proofs.Writing.{in_table}

-- ---- Tests

-- each test that may give one of 1 to 4 passes
abbrev pub late : List Test → Bool
late [] = true
late (g ∷ gs) = (ltb 4 g.number || g.passes) && late gs

-- the numbers are above 4; first come tests of 4 and then such
abbrev above : List Test → Bool
above [] = true
above (g ∷ gs) = ltb 4 g.number && above gs

abbrev pub fours_first : List Test → Bool
fours_first [] = true
fours_first (g ∷ gs) = cond (eqb g.number 4) (fours_first gs) (above (g ∷ gs))

late_pass : (gs : List Test) → first_failed gs ≡ pass → late gs ≡ true
late_pass [] e = refl
late_pass (g ∷ gs) e =
    bool g.passes
    (λ y. rw (y, or-true (ltb 4 g.number)) (late_pass gs (rw y at e)))
    (λ y. refuse_pass g.number (rw y at e))

pub late_fails : (gs : List Test) (n : ℕ) → late gs ≡ true → first_failed gs ≡ refuse n → 4 < n
late_fails [] n l e = refuse_pass n (sym e)
late_fails (g ∷ gs) n l e =
    bool g.passes
    (λ y. late_fails gs n (and_r (ltb 4 g.number || g.passes) (late gs) l) (rw y at e))
    (λ y. let r : refuse g.number ≡ refuse n = rw y at e in
    let z : g.number ≡ n = cc in
    let t : ltb 4 g.number ≡ true = rw (y, or-false (ltb 4 g.number)) at (and_l (ltb 4 g.number || g.passes) (late gs) l) in
    rw (← z) (ltb-true 4 g.number t))

above_late : (gs : List Test) → above gs ≡ true → late gs ≡ true
above_late [] a = refl
above_late (g ∷ gs) a = rw (and_l (ltb 4 g.number) (above gs) a) (above_late gs (and_r (ltb 4 g.number) (above gs) a))

pub fours : (gs : List Test) → fours_first gs ≡ true → late gs ≡ false → first_failed gs ≡ refuse 4
fours [] f l = absurd (true≢false l)
fours (g ∷ gs) f l =
    bool (eqb g.number 4)
    (λ q. let z = eqb-true g.number 4 q in
    bool g.passes (λ y. rw y (fours gs (rw q at f) (rw (z, y) at l))) (λ y. rw (y, z)))
    (λ q. absurd (true≢false (sym (above_late (g ∷ gs) (rw q at f)) ∙ l)))

-- ---- Operands

number_most : (n : ℕ) (bs : List ℕ) → Bytes bs → big_endian (take n bs) < 256 ^ n
number_most n bs h = omega (arith, number_below (take n bs) (bytes_take n bs h), rises (length (take n bs)) n (rw length-take (omega arith)))
  where
    rises : (i j : ℕ) → i ≤ j → 256 ^ i ≤ 256 ^ j
    rises i zero l = let z : i ≡ 0 = omega arith in rw z (omega arith)
    rises i (suc j) l = same? i (suc j) (λ z. rw z (omega arith)) (λ d. omega (arith, rises i j (omega arith), pow-suc 256 j))

bytes_fit : (n : ℕ) (bs : List ℕ) → Bytes bs → ltb (big_endian (take n bs)) (256 ^ n) ≡ true
bytes_fit n bs h = lt-ltb (big_endian (take n bs)) (256 ^ n) (number_most n bs h)

-- What reading asks of the operands is what the command's tests for 1 to 4 ask.
abbrev Alike : State → Form → Type 0
Alike s f =
    (bs : List ℕ) → Bytes bs
    → (operands_fit s.header.nodes s.header.sheets f.operands (numbers f.operands bs) ≡ late (tests s (f.command (values f.operands bs))))
    × (fours_first (tests s (f.command (values f.operands bs))) ≡ true)

alike : (s : State) (x : ℕ) (f : Form) → form_of x commands ≡ some f → Alike s f
alike s x f e = in_table (Alike s) commands
    (λ bs h. (refl, refl), (λ bs h. (refl, refl), (λ bs h. (rw (bytes_fit 4 (drop (width sheet) (drop 1 bs)) (bytes_drop (width sheet) (drop 1 bs) (bytes_drop 1 bs h))), refl), (λ bs h. (refl, refl), (λ bs h. (refl, refl), (λ bs h. (refl, refl), (λ bs h. (refl, refl), (λ bs h. (refl, refl), tt)))))))) x f e

-- ---- A list of steps and a run

-- nothing is refused before p
abbrev Behind : ℕ → Listing → Type 0
Behind p (steps is) = Unit {0}
Behind p (stops r) = p ≤ r.place

abbrev Agreed : Stop → Listing → Type 0
Agreed ended (steps is) = Unit {0}
Agreed ended (stops r) = ⊥
Agreed (stopped p n shown) (steps is) = 4 < n
Agreed (stopped p n shown) (stops r) = StopsBy (stopped p n shown) r

behind_less : (p : ℕ) (l : Listing) → Behind (suc p) l → Behind p l
behind_less p (steps is) b = tt
behind_less p (stops r) b = omega arith

behind_also : (p : ℕ) (i : Instruction) (l : Listing) → Behind p l → Behind p (also i l)
behind_also p i (steps is) b = tt
behind_also p i (stops r) b = b

agreed_also : (x : Stop) (i : Instruction) (l : Listing) → Agreed x l → Agreed x (also i l)
agreed_also ended i (steps is) a = tt
agreed_also ended i (stops r) a = a
agreed_also (stopped p n shown) i (steps is) a = a
agreed_also (stopped p n shown) i (stops r) a = a

-- a refusal of the run alone
agreed_before : (p n shown : ℕ) (l : Listing) → 4 < n → Behind (suc p) l → Agreed (stopped p n shown) l
agreed_before p n shown (steps is) h b = h
agreed_before p n shown (stops r) h b = inr (b, h)

module _ (n m : ℕ) where
  list_behind : (w p : ℕ) (bs : List ℕ) → Behind p (list_from n m w p bs)
  unfolding list_from
  list_behind w p [] = tt
  list_behind (suc w) p (x ∷ bs) = behind_less p (list_from n m w (suc p) bs) (list_behind w (suc p) bs)
  list_behind zero p (x ∷ bs) = go (form x) (λ w. list_behind w (suc p) bs)
    where
      go : (o : Option Form) → ((w : ℕ) → Behind (suc p) (list_from n m w (suc p) bs)) → Behind p (list_by n m x p o bs (λ w. list_from n m w (suc p) bs))
      go none on = le_refl p
      go (some f) on =
          let os = f.operands in
          bool (ltb (length bs) (widths os))
          (λ y. rw y (le_refl p))
          (λ y. bool (operands_fit n m os (numbers os bs))
          (λ z. let l = list_from n m (widths os) (suc p) bs in rw (y, z) (behind_also p (instruction x os bs) l (behind_less p l (on (widths os)))))
          (λ z. rw (y, z) (le_refl p)))

module _ (s : State) (last : Reply) (p x : ℕ) (bs : List ℕ) (bytes : Bytes bs) (f : Form) (q : form_of x commands ≡ some f) where
  abbrev os : List Operand
  os = f.operands

  abbrev c : Command
  c = f.command (values os bs)

  abbrev fit : Bool
  fit = operands_fit s.header.nodes s.header.sheets os (numbers os bs)

  abbrev here : Step
  here = record { offset = p; size = suc (widths os); command = c }

  whole_agreed : (rest : Reading) (l : Listing) → Behind (suc p) l → (check s c ≡ pass → Agreed (final (effect s c) (answers (answer s c)) rest).stop l)
      → Agreed (final s last (more here rest)).stop (cond fit (also (instruction x os bs) l) (stops (at p 4)))
  whole_agreed rest l b on = go (check s c) refl
    where
      same : fit ≡ late (tests s c)
      same = (alike s x f q bs bytes).0

      go : (k : Checked) → check s c ≡ k → Agreed (final s last (more here rest)).stop (cond fit (also (instruction x os bs) l) (stops (at p 4)))
      go pass e = rw (final_accepts s last here rest e, same ∙ late_pass (tests s c) e) (agreed_also (final (effect s c) (answers (answer s c)) rest).stop (instruction x os bs) l (on e))
      go (refuse n) e =
          rw (final_refuses s last here rest n e)
          (bool fit
          (λ y. rw y (agreed_also (stopped p n (suc (widths os))) (instruction x os bs) l (agreed_before p n (suc (widths os)) l (late_fails (tests s c) n (sym same ∙ y) e) b)))
          (λ y. let r : refuse n ≡ refuse 4 = sym e ∙ fours (tests s c) (alike s x f q bs bytes).1 (sym same ∙ y) in let z : n ≡ 4 = cc in rw y (inl (refl, z))))

-- from a state on, by its header
abbrev AgreedFrom : State → Reply → Header → (operands p : ℕ) → List ℕ → Type 0
AgreedFrom s last g w p bs = Agreed (final s last (read_from w p bs)).stop (list_from g.nodes g.sheets w p bs)

agreed : (s : State) (last : Reply) (w p : ℕ) (bs : List ℕ) → Bytes bs → AgreedFrom s last s.header w p bs
unfolding form read_from list_from
agreed s last w p [] b = rw (final_ends s last ended) tt
agreed s last (suc w) p (x ∷ bs) b = agreed s last w (suc p) bs (λ i. b (suc i))
agreed s last zero p (x ∷ bs) b = go (form_of x commands) refl (λ s' last' w. agreed s' last' w (suc p) bs (λ i. b (suc i)))
  where
    go : (o : Option Form) → form_of x commands ≡ o → ((s' : State) (last' : Reply) (w : ℕ) → AgreedFrom s' last' s'.header w (suc p) bs)
        → Agreed (final s last (read_front (front_by (form_of x commands) bs) p (length bs) (λ w. read_from w (suc p) bs))).stop (list_by s.header.nodes s.header.sheets x p (form x) bs (λ w. list_from s.header.nodes s.header.sheets w (suc p) bs))
    go none q on = rw (q, final_ends s last (stopped p 2 1)) (inl (refl, refl))
    go (some f) q on =
        let os = f.operands in
        let w = widths os in
        let c = f.command (values os bs) in
        bool (ltb (length bs) w)
        (λ y. rw (q, y, final_ends s last (stopped p 3 (suc (length bs)))) (inl (refl, refl)))
        (λ y. rw (q, y)
        (whole_agreed s last p x bs (λ i. b (suc i)) f q (read_from w (suc p) bs) (list_from s.header.nodes s.header.sheets w (suc p) bs) (list_behind s.header.nodes s.header.sheets w (suc p) bs)
        (λ r. subst (λ g. AgreedFrom (effect s c) (answers (answer s c)) g w (suc p) bs) (same_header s c) (on (effect s c) (answers (answer s c)) w))))

fresh_header : (h : Header) → (fresh h).header ≡ h
unfolding fresh
fresh_header h = refl

-- ---- A session

run_first : (x : Stop) (g : Heading) (l : Listing) → Agreed x l → (p n shown : ℕ) → x ≡ stopped p n shown → n ≤ 4 → listed_by g l ≡ refuses (at p n)
run_first x g (steps is) a p n shown e h = absurd (let z : 4 < n = rw e at a in omega arith)
run_first x g (stops r) a p n shown e h = go (rw e at a)
  where
    go : ((p ≡ r.place) × (n ≡ r.number)) ⊎ ((p < r.place) × (4 < n)) → refuses r ≡ refuses (at p n)
    go (inl y) = rw (y.0, y.1)
    go (inr y) = absurd (let z = y.1 in omega arith)

read_first : (x : Stop) (g : Heading) (l : Listing) → Agreed x l → (r : Refusal) → listed_by g l ≡ refuses r → StopsBy x r
read_first x g (steps is) a r e = absurd (let z : ◌≡◌ {A = ℕ} 0 1 = cc in omega arith)
read_first ended g (stops q) a r e = absurd a
read_first (stopped p n shown) g (stops q) a r e = let z : q ≡ r = cc in rw z at a

module _ (b : List ℕ) (h : Bytes b) where
  abbrev run_reads : Type 0
  run_reads = (p n shown : ℕ) → stop b ≡ stopped p n shown → n ≤ 4 → read b ≡ refuses (at p n)

  no_session : run_reads → (g : Heading) (is : List Instruction) → read b ≡ session g is → (p n shown : ℕ) → n ≤ 4 → stop b ≢ stopped p n shown
  no_session f g is e p n shown l z = let y : session g is ≡ refuses (at p n) = sym e ∙ f p n shown z l in absurd (let q : ◌≡◌ {A = ℕ} 0 1 = cc in omega arith)

  agrees : Agrees b
  unfolding read
  agrees = bool (opens b)
      (λ o.
      let l = list_from (header b).nodes (header b).sheets 0 (header_size b) (drop (header_size b) b) in
      let a : AgreedFrom (fresh (header b)) no_command (header b) 0 (header_size b) (drop (header_size b) b) =
      subst (λ g. AgreedFrom (fresh (header b)) no_command g 0 (header_size b) (drop (header_size b) b)) (fresh_header (header b)) (agreed (fresh (header b)) no_command 0 (header_size b) (drop (header_size b) b) (bytes_drop (header_size b) b h)) in
      let f : run_reads = rw (o, stop_final b o) (run_first (session_final b).stop (heading b) l a) in
      record { run_read = f; none_of_them = no_session f; read_run = rw (o, stop_final b o) (read_first (session_final b).stop (heading b) l a) })
      (λ o.
      let f : run_reads = λ p n shown e _. let z : stopped 0 1 0 ≡ stopped p n shown = sym (stop_unopened b o) ∙ e in let x : 0 ≡ p = cc in let y : 1 ≡ n = cc in rw (o, ← x, ← y) in
      record { run_read = f; none_of_them = no_session f; read_run = λ r e. let z : refuses (at 0 1) ≡ refuses r = rw o at e in let y : at 0 1 ≡ r = cc in rw (stop_unopened b o, ← y) (inl (refl, refl)) })

pub always_agrees : AlwaysAgrees
always_agrees b h = agrees b h
