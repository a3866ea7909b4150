-- A move under a name, and room for the change of states that it takes.
use Rattle.std.proofs.Common.{◌≡◌, ℕ, ◌+◌, ◌≤◌, Option, Some, None, IfSome, IsSome, Result, Ok, Err, arith, sym, subst, ◌∙◌, ap}
use Rattle.std.specs.Prelude.{OnOk, OnErr, IsOk, IfErr, IfNone}
use Rattle.sk_ranges.specs.declared.state.State.{State}
use Rattle.sk_spaces.specs.declared.step.Step.{Step}
use Rattle.sk_spaces.specs.Blocks.{copied}
use Rattle.sk_spaces.specs.Spaces.{SpacesView, Changes, block_at, name_or}
use Rattle.sk_copy_states.specs.declared.held.Held.{Held}
use Rattle.sk_copy_states.specs.Copies.{SetsAt, KeepsStates, HasRoomIn, home_in, home_store, pins_in, expected_in, room_in}
use Rattle.sk_copy_states.specs.Stores.{changes_in}
use Rattle.sk_coherence_laws.specs.Directory.{DirectoryView, store_at}

pub from_ok : {A E P : Type 0} (r : Result A E) → IsOk r → OnOk r P → P
from_ok (Ok x) ok holds = holds
from_ok (Err e) ok holds = cc

pub changed_as : {A E : Type 0} (old mid new : SpacesView) (from to lo hi : ℕ) (step own : Step) (r : Result A E)
    → mid ≡ record old { named = Some step } → IsOk r
    → OnOk r (Changes mid new to (copied lo hi (block_at mid from) (block_at mid to)) None (name_or mid.named own))
    → Changes old new to (copied lo hi (block_at old from) (block_at old to)) None step
changed_as old mid new from to lo hi step own r is ok holds =
    let c = from_ok r ok (subst (λ (m : SpacesView). OnOk r (Changes m new to (copied lo hi (block_at m from) (block_at m to)) None (name_or m.named own))) is holds) in
    record { memories = c.memories; named = c.named; noted = c.noted }

-- the room that is left where so much was made
pub room_left : (d : DirectoryView) (o mid p : Option Held) (n : ℕ) → IsSome o
    → IfSome o (λ held. n ≡ changes_in (store_at d held.store) + 1) → HasRoomIn n mid
    → home_in mid ≡ home_in o → home_in p ≡ home_in mid → expected_in p ≡ expected_in mid → room_in mid ≤ room_in p + 1
    → IfSome p (λ held. changes_in (store_at d held.store) + held.expected ≤ held.states.reserved)
room_left d o mid None n there is made one two expected used = tt
room_left d None mid (Some p) n there is made one two expected used = cc
room_left d (Some o) None (Some p) n there is made one two expected used = cc
room_left d (Some o) (Some m) (Some p) n there is made one two expected used =
    let same : p.store ≡ o.store = grind (arith, ap home_store two, ap home_store one) in
    omega (arith, is, made, used, expected, ap (λ (x : ℕ). changes_in (store_at d x)) same)

-- a change of states after room was made for it
pub sets_after : (o mid p : Option Held) (lo hi : ℕ) (state : State) → KeepsStates o mid → pins_in mid ≡ pins_in o
    → SetsAt mid p lo hi state → SetsAt o p lo hi state
sets_after o mid p lo hi state k pins s = record {
  home = s.home ∙ k.home;
  pins = s.pins ∙ pins;
  expected = s.expected ∙ k.expected;
  fit = λ fit. s.fit (k.fit fit);
  room = omega (arith, s.room, k.room);
  states = record {
    before = λ i below. s.states.before i below ∙ k.states i;
    inside = s.states.inside;
    after = λ i above. s.states.after i above ∙ k.states i;
  };
}

-- the same of a copy of the same store
pub room_left_too : (d : DirectoryView) (o p q : Option Held) (n : ℕ) → IsSome o
    → IfSome o (λ held. n ≡ changes_in (store_at d held.store) + 1) → IfSome q (λ held. n + held.expected ≤ held.states.reserved + 1)
    → home_store (home_in p) ≡ home_store (home_in o) → home_in q ≡ home_in p
    → IfSome q (λ held. changes_in (store_at d held.store) + held.expected ≤ held.states.reserved)
room_left_too d o p None n there is made one two = tt
room_left_too d o None (Some q) n there is made one two = cc
room_left_too d None p (Some q) n there is made one two = cc
room_left_too d (Some o) (Some p) (Some q) n there is made one two =
    let same : q.store ≡ o.store = grind (arith, ap home_store two, one) in
    omega (arith, is, made, ap (λ (x : ℕ). changes_in (store_at d x)) same)

pub on_err_any : {A E P : Type 0} (r : Result A E) → P → OnErr r P
on_err_any (Ok x) holds = tt
on_err_any (Err e) holds = holds

pub if_none_any : {A P : Type 0} (o : Option A) → P → IfNone o P
if_none_any None holds = holds
if_none_any (Some x) holds = tt

pub if_err_of : {A E : Type 0} (r : Result A E) (e : E) (P : E → Type 0) → r ≡ Err e → P e → IfErr r P
if_err_of r e P is holds = subst (λ (x : Result _ _). IfErr x P) (sym is) holds
