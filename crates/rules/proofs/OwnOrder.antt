-- In a stretch of steps at nodes each node's own order is all that counts: the first step of the one list is the first of its node's in the
-- other, and comes to the front by swaps with steps at other nodes.
use Prim.Native.Nat.{ℕ}
use mathlib.Core.Path.{◌≡◌, refl, sym, ◌∙◌}
use mathlib.Core.Bool.{true, false}
use mathlib.Core.Logic.{◌≢◌}
use mathlib.Core.List.{List, [], ◌∷◌, ◌++◌, cons-ne-nil}
use mathlib.Core.Option.{Option, none, some}
use borrow.Author.Tests.{eq-eqb, ne_eqb}
use Rattle.rules.specs.Bytes.{Command}
use Rattle.rules.specs.Neighbours.{node_of, own_steps, at_some, at_nodes, Swaps, as_it_was, swap, behind, then, OwnOrder}
use Rattle.rules.proofs.Table.{same?, clash, and_l, and_r, and_i}

-- ---- Lists of steps at nodes

-- the node of the first, and that the rest are such steps too
at_first : {P : Type 0} (c : Command) (cs : List Command) → at_nodes (c ∷ cs) ≡ true → ((n : ℕ) → node_of c ≡ some n → at_nodes cs ≡ true → P) → P
at_first {P} c cs e f = go (node_of c) refl (and_l (at_some (node_of c)) (at_nodes cs) e)
  where
    go : (x : Option ℕ) → node_of c ≡ x → at_some x ≡ true → P
    go (some n) q y = f n q (and_r (at_some (node_of c)) (at_nodes cs) e)
    go none q y = clash false y refl

module _ (n : ℕ) (c : Command) (cs : List Command) where
  own_here : node_of c ≡ some n → own_steps n (c ∷ cs) ≡ c ∷ own_steps n cs
  own_here e = rw (e, eq-eqb n n refl)

  own_elsewhere : (m : ℕ) → node_of c ≡ some m → m ≢ n → own_steps n (c ∷ cs) ≡ own_steps n cs
  own_elsewhere m e d = rw (e, ne_eqb m n d)

-- one more command in front of both
own_both : (n : ℕ) (c : Command) (cs ds : List Command) → own_steps n cs ≡ own_steps n ds → own_steps n (c ∷ cs) ≡ own_steps n (c ∷ ds)
own_both n c cs ds e = rw e

-- ---- To the front

-- list cs with node n's first step, d, in front of the others, which are cs'
record Pulled (n : ℕ) (d : Command) (more cs cs' : List Command) : Type 0 where
  swaps : Swaps cs (d ∷ cs')
  at : at_nodes cs' ≡ true
  own : own_steps n cs' ≡ more
  others : (m : ℕ) → m ≢ n → own_steps m cs' ≡ own_steps m cs

pull : {P : Type 0} (n : ℕ) (d : Command) (more cs : List Command) → node_of d ≡ some n → at_nodes cs ≡ true → own_steps n cs ≡ d ∷ more
    → ((cs' : List Command) → Pulled n d more cs cs' → P) → P
pull n d more [] q a e f = absurd (cons-ne-nil d more (sym e))
pull {P} n d more (c ∷ cs) q a e f = at_first c cs a (λ m r a'. same? m n (λ z. here (rw z at r) a') (λ z. further m r a' z (pull n d more cs q a')))
  where
    here : node_of c ≡ some n → at_nodes cs ≡ true → P
    here r a' =
        let h : c ∷ own_steps n cs ≡ d ∷ more = sym (own_here n c cs r) ∙ e in
        let first : c ≡ d = cc in
        let rest : own_steps n cs ≡ more = cc in
        f cs (record { swaps = rw first as_it_was; at = a'; own = rest; others = λ m x. sym (own_elsewhere m c cs n r (λ y. x (sym y))) })

    further : (m : ℕ) → node_of c ≡ some m → at_nodes cs ≡ true → m ≢ n → (own_steps n cs ≡ d ∷ more → ((cs' : List Command) → Pulled n d more cs cs' → P) → P) → P
    further m r a' z again = again (sym (own_elsewhere n c cs m r z) ∙ e) (λ cs' p. f (c ∷ cs') (record {
      swaps = then (behind c p.swaps) (swap c d cs' (rw (r, q, ne_eqb m n z)));
      at = and_i (at_some (node_of c)) (at_nodes cs') (rw r) p.at;
      own = own_elsewhere n c cs' m r z ∙ p.own;
      others = λ i x. own_both i c cs' cs (p.others i x);
    }))

-- ---- Step by step

own_swaps : (ds cs : List Command) → at_nodes cs ≡ true → at_nodes ds ≡ true → ((n : ℕ) → own_steps n cs ≡ own_steps n ds) → Swaps cs ds
own_swaps [] [] a b e = as_it_was
own_swaps [] (c ∷ cs) a b e = at_first c cs a (λ n q _. absurd (cons-ne-nil c (own_steps n cs) (sym (own_here n c cs q) ∙ e n)))
own_swaps (d ∷ ds) cs a b e = at_first d ds b (λ n q b'. pull n d (own_steps n ds) cs q a (e n ∙ own_here n d ds q) (λ cs' p.
    then p.swaps (behind d (own_swaps ds cs' p.at b' (λ m. same? m n
    (λ z. rw z p.own)
    (λ z. p.others m z ∙ e m ∙ own_elsewhere m d ds n q (λ y. z (sym y))))))))

-- whatever follows
with_rest : {cs ds : List Command} (rest : List Command) → Swaps cs ds → Swaps (cs ++ rest) (ds ++ rest)
with_rest rest as_it_was = as_it_was
with_rest rest (swap a b cs e) = swap a b (cs ++ rest) e
with_rest rest (behind c p) = behind c (with_rest rest p)
with_rest rest (then p q) = then (with_rest rest p) (with_rest rest q)

pub own_order : OwnOrder
own_order cs ds rest a b e = with_rest rest (own_swaps ds cs a b e)
