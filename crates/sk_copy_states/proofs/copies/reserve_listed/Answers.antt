use Rattle.std.proofs.Common.{ℕ, slice_index, Option}
use Rattle.sk_copy_states.specs.declared.held.Held.{Held}
use Rattle.sk_copy_states.specs.Copies.{held_in}
use Rattle.sk_copy_states.proofs.RoomLemmas.{reserved-all, reserved-pins, reserved-done}
use Rattle.sk_copy_states.proofs.copies.reserve_listed.Goals as goal

pub ids-preserved : goal.ids-preserved
ids-preserved c =
    let v = c.ids.invariant in
    let e = c.reserve_one.ensures in
    let first : ℕ → Option Held = held_in c.args.copies.now.entries in
    let now : ℕ → Option Held = held_in c.ids.copies.entries in
    let next : ℕ → Option Held = held_in c.reserve_one.new.copies.entries in
    record {
      done = reserved-done now next c.args.ids.now c.ids.at c.args.n e.states e.others v.done c.in_ok-reserve_one.ensures.ok;
      states = reserved-all first now next (slice_index c.args.ids.now c.ids.at) v.states e.states e.others;
      pins = reserved-pins first now next (slice_index c.args.ids.now c.ids.at) v.pins e.pins e.others;
    }

pub returns-in_err-reserve_one-clause-states : goal.returns-in_err-reserve_one-clause-states
returns-in_err-reserve_one-clause-states c =
    let first : ℕ → Option Held = held_in c.args.copies.now.entries in
    let now : ℕ → Option Held = held_in c.ids.copies.entries in
    let next : ℕ → Option Held = held_in c.reserve_one.new.copies.entries in
    reserved-all first now next (slice_index c.args.ids.now c.ids.at) c.ids.invariant.states c.reserve_one.ensures.states c.reserve_one.ensures.others

pub returns-in_err-reserve_one-clause-pins : goal.returns-in_err-reserve_one-clause-pins
returns-in_err-reserve_one-clause-pins c =
    let first : ℕ → Option Held = held_in c.args.copies.now.entries in
    let now : ℕ → Option Held = held_in c.ids.copies.entries in
    let next : ℕ → Option Held = held_in c.reserve_one.new.copies.entries in
    reserved-pins first now next (slice_index c.args.ids.now c.ids.at) c.ids.invariant.pins c.reserve_one.ensures.pins c.reserve_one.ensures.others
