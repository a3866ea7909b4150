-- The list of the states of all indices, read at an index.
use Rattle.std.proofs.Common.{◌≡◌, ℕ, ◌≤◌, List, [], ◌∷◌, None, ⊎_elim, length, replicate, sym, ap, ◌∙◌, arith}
use Rattle.std.proofs.lemmas.Bool.{cases_lt}
use Rattle.std.proofs.lemmas.List.{get_or_past, get_or-replicate, length-replicate}
use Rattle.std.proofs.lemmas.List.FromFn.{length-map-range_with_len, get_or-map-range_with_len, fill_by_all}
use mathlib.Core.Path.{fun_ext}
use Rattle.sk_ranges.specs.declared.state.State.{State}
use Rattle.sk_ranges.specs.declared.state.State.TheVariants.{Stale}
use Rattle.sk_ranges.specs.declared.pieces.Piece.{Piece}
use Rattle.sk_ranges.specs.Pieces.{AreTidy, end_of, state_of, states_of}
use Rattle.sk_ranges.specs.States.{state_at}
use Rattle.sk_ranges.proofs.PieceLemmas.{state_of-here, state_of-past}

pub length-states_of : (ps : List Piece) → length (states_of ps) ≡ end_of 0 ps
length-states_of ps = length-map-range_with_len (state_of ps) 0 (end_of 0 ps)

pub state_at-states_of : (ps : List Piece) (i : ℕ) → AreTidy 0 None ps → state_at (states_of ps) i ≡ state_of ps i
state_at-states_of ps i t =
    ⊎_elim
    (λ below. get_or-map-range_with_len (state_of ps) 0 (end_of 0 ps) i i Stale below (omega arith))
    (λ (past : end_of 0 ps ≤ i). get_or_past (states_of ps) i Stale (omega (arith, length-states_of ps)) ∙ sym (state_of-past 0 None ps i t past))
    (cases_lt i (end_of 0 ps))

-- the list and the pieces have the same states, and as many
pub seen_at : (ps : List Piece) (states : List State) → AreTidy 0 None ps → states_of ps ≡ states → state_of ps ≡ state_at states
seen_at ps states t e = fun_ext (λ i. sym (state_at-states_of ps i t) ∙ ap (λ (ss : List State). state_at ss i) e)

pub seen_length : (ps : List Piece) (states : List State) → states_of ps ≡ states → end_of 0 ps ≡ length states
seen_length ps states e = sym (length-states_of ps) ∙ ap length e

-- one stale piece, or none
pub states_of-stale : (len : ℕ) → states_of (record { end = len; state = Stale } ∷ []) ≡ replicate len Stale
states_of-stale len =
    let p : Piece = record { end = len; state = Stale } in
    sym (fill_by_all (state_of (p ∷ [])) (replicate len Stale) len Stale (length-replicate len Stale) (λ k h. get_or-replicate len k Stale Stale h ∙ sym (state_of-here p [] k h)))

pub states_of-one : (ps : List Piece) (len : ℕ) → ps ≡ record { end = len; state = Stale } ∷ [] → states_of ps ≡ replicate len Stale
states_of-one ps len e = ap states_of e ∙ states_of-stale len

pub states_of-none : (ps : List Piece) (len : ℕ) → ps ≡ [] → len ≤ 0 → states_of ps ≡ replicate len Stale
states_of-none ps len e h =
    let none : len ≡ 0 = omega arith in
    rw none (ap states_of e)
