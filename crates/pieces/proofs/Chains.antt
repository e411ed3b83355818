-- Joined is an equivalence on what remains, and two stations are joined just when they are of one piece, which is named by the lowest
-- station that is joined to them. Assumes nothing.
use Prim.Native.Nat.{ℕ, zero, suc, ◌/◌, ◌<◌, ◌≤◌}
use mathlib.Core.Path.{◌≡◌, refl, sym, ◌∙◌}
use mathlib.Core.Bool.{Bool, true, false, ◌||◌, true≢false}
use mathlib.Core.List.{List}
use native.Mathlib.Decide.{ℕ_discrete}
use native.Mathlib.Omega.{arith}
use borrow.Author.Tests.{eqb-true, eq-eqb}
use lib.ListN.{length, get_or}
use Rattle.network.specs.Lines.{network, end_one, end_two, Joins.forth, Joins.back, Proper}
use Rattle.network.specs.Chains.{Hop, Hop.by, Chain.here, Chain.step, Every}
use Rattle.network.proofs.Chains.{hop_back, chain_start, chain_join, chain_hop, chain_back}
use Rattle.pieces.specs.Joined.{Remains, Joined}
use Rattle.pieces.specs.Pieces.{pieces_of, one_piece}
use Rattle.pieces.specs.Lowest.{LowestJoined}
use Rattle.pieces.proofs.Tables.{alone_at, name_low}
use Rattle.pieces.proofs.Pieces.{Merged, Merged.stays, Merged.forth, Merged.back, merge_keeps, merge_one, merge_cases, names_after, names_none, names_all_lines, names_away, names_join, led}
use Rattle.laws.proofs.Truth.{neither}

module _ (n : ℕ) (lines : List ℕ) (away : ℕ → Bool) where
  -- ── an equivalence ──

  -- THEOREM. A station that remains is joined to itself.
  pub joined_self : {v : ℕ} → Remains n away v → Joined n lines away v v
  joined_self r = here r

  -- THEOREM. Joined goes both ways.
  pub joined_back : {a b : ℕ} → Joined n lines away a b → Joined n lines away b a
  joined_back c = chain_back (λ x y h. hop_back h) c

  -- THEOREM. What is joined to one that is joined to a third is joined to the third.
  pub joined_then : {a b c : ℕ} → Joined n lines away a b → Joined n lines away b c → Joined n lines away a c
  joined_then x y = chain_join x y

  -- What is joined remains.
  pub joined_remains : {a b : ℕ} → Joined n lines away a b → Remains n away a × Remains n away b
  joined_remains c = (chain_start c, chain_start (joined_back c))

  module _ (proper : Proper (network n lines)) where
    size : (p : ℕ) → p ≤ length lines / 2 → length (names_after n lines away p) ≡ n
    size p h = (led n lines away proper p h).size

    -- a line joins its ends, if both remain
    line_joins : (p : ℕ) → p < length lines / 2 → (away (end_one lines p) || away (end_two lines p)) ≡ false → Joined n lines away (end_one lines p) (end_two lines p)
    line_joins p h e =
        let (x, y) = neither (away (end_one lines p)) (away (end_two lines p)) e in
        chain_hop (record { station = proper.one_in p h; stays = x }) (record { station = proper.two_in p h; stays = y }) (by p h tt (forth refl refl))

    -- ── of one piece, so joined ──

    joined_name : (p : ℕ) → p ≤ length lines / 2 → (v : ℕ) → Remains n away v → Joined n lines away v (get_or (names_after n lines away p) v 0)
    joined_name zero h v r = rw (names_none n lines away, alone_at n v r.station) (here r)
    joined_name (suc p) h v r = go (away (end_one lines p) || away (end_two lines p)) refl (joined_name p (omega arith))
      where
        go : (b : Bool) → (away (end_one lines p) || away (end_two lines p)) ≡ b
            → ((w : ℕ) → Remains n away w → Joined n lines away w (get_or (names_after n lines away p) w 0))
            → Joined n lines away v (get_or (names_after n lines away (suc p)) v 0)
        go true e ih = rw (names_away n lines away p e) (ih v r)
        go false e ih = rw (names_join n lines away p e) (merged (merge_cases x y (names_after n lines away p) v (omega (arith, size p (omega arith), r.station))))
          where
            x : ℕ
            x = get_or (names_after n lines away p) (end_one lines p) 0

            y : ℕ
            y = get_or (names_after n lines away p) (end_two lines p) 0

            ends : Joined n lines away (end_one lines p) (end_two lines p)
            ends = line_joins p h e

            names_join_too : Joined n lines away x y
            names_join_too =
                let (one, two) = joined_remains ends in
                joined_then (joined_back (ih (end_one lines p) one)) (joined_then ends (ih (end_two lines p) two))

            merged : {new : ℕ} → Merged x y (names_after n lines away p) (get_or (names_after n lines away p) v 0) new → Joined n lines away v new
            merged (stays f) = rw f (ih v r)
            merged (forth f g) = rw g (joined_then (rw f at (ih v r)) names_join_too)
            merged (back f g) = rw g (joined_then (rw f at (ih v r)) (joined_back names_join_too))

    -- ── joined, so of one piece ──

    -- the ends of a line before p have one name, if both remain
    line_name : (p : ℕ) → p ≤ length lines / 2 → (q : ℕ) → q < p → (away (end_one lines q) || away (end_two lines q)) ≡ false
        → get_or (names_after n lines away p) (end_one lines q) 0 ≡ get_or (names_after n lines away p) (end_two lines q) 0
    line_name zero h q l e = absurd (omega arith)
    line_name (suc p) h q l e = go (away (end_one lines p) || away (end_two lines p)) refl (ℕ_discrete q p) (λ k. line_name p (omega arith) q k e)
      where
        one_in : end_one lines q < length (names_after n lines away p)
        one_in = omega (arith, size p (omega arith), proper.one_in q (omega arith))

        two_in : end_two lines q < length (names_after n lines away p)
        two_in = omega (arith, size p (omega arith), proper.two_in q (omega arith))

        go : (b : Bool) → (away (end_one lines p) || away (end_two lines p)) ≡ b → Dec (q ≡ p)
            → (q < p → get_or (names_after n lines away p) (end_one lines q) 0 ≡ get_or (names_after n lines away p) (end_two lines q) 0)
            → get_or (names_after n lines away (suc p)) (end_one lines q) 0 ≡ get_or (names_after n lines away (suc p)) (end_two lines q) 0
        go true f (yes i) ih = absurd (true≢false (sym f ∙ (rw i at e)))
        go true f (no m) ih = rw (names_away n lines away p f) (ih (omega arith))
        go false f (yes i) ih = rw (names_join n lines away p f) (merge_one _ _ (names_after n lines away p) (end_one lines q) (end_two lines q) one_in two_in (rw i) (rw i))
        go false f (no m) ih = rw (names_join n lines away p f) (merge_keeps _ _ (names_after n lines away p) (end_one lines q) (end_two lines q) one_in two_in (ih (omega arith)))

    hop_name : (u v : ℕ) → Remains n away u → Remains n away v → Hop (network n lines) Every u v → get_or (pieces_of n lines away) u 0 ≡ get_or (pieces_of n lines away) v 0
    hop_name u v r s (by p l t (forth x y)) =
        let stay : (away (end_one lines p) || away (end_two lines p)) ≡ false = rw (x, y, r.stays, s.stays) in
        rw (names_all_lines n lines away) (rw (x, y) at (line_name (length lines / 2) (omega arith) p l stay))
    hop_name u v r s (by p l t (back x y)) =
        let stay : (away (end_one lines p) || away (end_two lines p)) ≡ false = rw (x, y, s.stays, r.stays) in
        rw (names_all_lines n lines away) (sym (rw (x, y) at (line_name (length lines / 2) (omega arith) p l stay)))

    joined_alike : {a b : ℕ} → Joined n lines away a b → get_or (pieces_of n lines away) a 0 ≡ get_or (pieces_of n lines away) b 0
    joined_alike (here s) = refl
    joined_alike (step s h c) = hop_name _ _ s (chain_start c) h ∙ joined_alike c

    -- ── the two are the same ──

    name_joined : (v : ℕ) → Remains n away v → Joined n lines away v (get_or (pieces_of n lines away) v 0)
    name_joined v r = rw (names_all_lines n lines away) (joined_name (length lines / 2) (omega arith) v r)

    -- THEOREM. Stations that remain and are of one piece are joined.
    pub one_piece_joined : {a b : ℕ} → Remains n away a → Remains n away b → one_piece n lines away a b ≡ true → Joined n lines away a b
    unfolding one_piece
    one_piece_joined {a} {b} r s e =
        let same = eqb-true (get_or (pieces_of n lines away) a 0) (get_or (pieces_of n lines away) b 0) e in
        joined_then (rw same at (name_joined a r)) (joined_back (name_joined b s))

    -- THEOREM. Stations that are joined are of one piece.
    pub joined_one_piece : {a b : ℕ} → Joined n lines away a b → one_piece n lines away a b ≡ true
    unfolding one_piece
    joined_one_piece c = eq-eqb _ _ (joined_alike c)

    name_most : (v : ℕ) → v < n → get_or (pieces_of n lines away) v 0 ≤ v
    name_most v h =
        let l = led n lines away proper (length lines / 2) (omega arith) in
        rw (names_all_lines n lines away) (name_low (names_after n lines away (length lines / 2)) l.table l.leads v (omega (arith, l.size, l.leads.size)))

    -- THEOREM. A piece is named by its lowest station.
    pub piece_lowest : (v : ℕ) → Remains n away v → LowestJoined n lines away v (get_or (pieces_of n lines away) v 0)
    piece_lowest v r =
        record {
          joins = name_joined v r;
          most = name_most v r.station;
          lowest = λ w c. omega (arith, joined_alike c, name_most w (joined_remains c).1.station);
        }
