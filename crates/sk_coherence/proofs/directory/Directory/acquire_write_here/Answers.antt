use Rattle.std.proofs.Common.{IsSome, rules, refl, sym, subst, ap, ◌∙◌}
use Rattle.sk_copy_states.specs.Copies.{home_in}
use Rattle.sk_coherence_laws.specs.Directory.{DirectoryView, copy_at, store_at}
use Rattle.sk_coherence_laws.specs.Moves.{Idles}
use Rattle.sk_coherence_laws.specs.Acquires.{IsRoomFault}
use Rattle.sk_coherence_laws.proofs.NamedMoves.{on_err_any, if_err_of}
use Rattle.sk_coherence_laws.proofs.ServesLemmas.{serves-trans, serves-idle, idle-reserve}
use Rattle.sk_coherence_laws.proofs.FillSums.{idle-trans}
use Rattle.sk_coherence_laws.proofs.AcquireLemmas.{home_there, fault-room, store-stays, traces-owed, traces-idled}
use Rattle.sk_coherence.proofs.LeftLemmas.{only-placed, only-homes, left-kept}
use Rattle.sk_coherence_laws.specs.HostBlocks.{home_at}
use Rattle.sk_copy_states.proofs.RoomLemmas.{kept-trans}
use Rattle.sk_spaces.specs.Machine.{Home}
use Rattle.sk_coherence.proofs.directory.Directory.acquire_write_here.Goals as goal

pub owe_write-requires-clause-there : goal.owe_write-requires-clause-there
owe_write-requires-clause-there g c =
    subst (λ (x : DirectoryView). IsSome (store_at x c.args.place.store)) (sym c.reserve.ensures.same)
    (store-stays c.args.self.now c.place.new.self c.args.place.store c.place.ensures.serves c.requires.there)

pub owe_write-requires-clause-copy : goal.owe_write-requires-clause-copy
owe_write-requires-clause-copy g c = let p = c.args.place in
    subst (λ (x : DirectoryView). IsSome (copy_at x c.in_ok-copy.copy.id)) (sym c.reserve.ensures.same)
    (home_there (copy_at c.place.new.self c.in_ok-copy.copy.id) (home_at p.store p.space p.block.lo p.block.hi) c.in_ok-copy.ensures.home)

pub returns-in_err-copy-clause-fault : goal.returns-in_err-copy-clause-fault
returns-in_err-copy-clause-fault g c =
    let p = c.args.place in
    let f : IsRoomFault c.args.self.now p.store p.space p.block.lo p.block.hi c.in_err-copy.field-0.0
    = fault-room c.args.self.now p.store p.space p.block.lo p.block.hi c.in_err-copy.field-0.0 c.in_err-copy.ensures.fault (c.in_err-copy.ensures.absent refl) in
    if_err_of c.from_residual.result c.in_err-copy.field-0.0 (IsRoomFault c.args.self.now p.store p.space p.block.lo p.block.hi) (search rules) f

pub returns-in_err-reserve-clause-err : goal.returns-in_err-reserve-clause-err
returns-in_err-reserve-clause-err g c =
    let i : Idles c.place.new.self c.reserve.new.self = idle-reserve c.place.new.self c.reserve.new.self c.reserve.ensures.same c.reserve.ensures.spaces c.reserve.ensures.kept in
    on_err_any c.from_residual-in_err-reserve.result
    (serves-trans c.args.self.now c.place.new.self c.reserve.new.self c.is_sound.ensures c.place.ensures.serves (serves-idle c.place.new.self c.reserve.new.self i))

pub returns-in_err-reserve-clause-traced : goal.returns-in_err-reserve-clause-traced
returns-in_err-reserve-clause-traced g c = let p = c.args.place in
    traces-idled c.args.self.now c.place.new.self c.reserve.new.self (home_at p.store p.space p.block.lo p.block.hi) c.place.ensures.traced
    (idle-reserve c.place.new.self c.reserve.new.self c.reserve.ensures.same c.reserve.ensures.spaces c.reserve.ensures.kept)

pub returns-in_err-owe_write-clause-err : goal.returns-in_err-owe_write-clause-err
returns-in_err-owe_write-clause-err g c =
    let i : Idles c.place.new.self c.reserve.new.self = idle-reserve c.place.new.self c.reserve.new.self c.reserve.ensures.same c.reserve.ensures.spaces c.reserve.ensures.kept in
    on_err_any c.from_residual-in_err-owe_write.result
    (serves-trans c.args.self.now c.place.new.self c.owe_write.new.self c.is_sound.ensures c.place.ensures.serves
    (serves-idle c.place.new.self c.owe_write.new.self (idle-trans c.place.new.self c.reserve.new.self c.owe_write.new.self i c.in_err-owe_write.ensures.err)))

pub returns-in_err-owe_write-clause-traced : goal.returns-in_err-owe_write-clause-traced
returns-in_err-owe_write-clause-traced g c =
    let p = c.args.place in
    let i : Idles c.place.new.self c.reserve.new.self = idle-reserve c.place.new.self c.reserve.new.self c.reserve.ensures.same c.reserve.ensures.spaces c.reserve.ensures.kept in
    traces-idled c.args.self.now c.place.new.self c.owe_write.new.self (home_at p.store p.space p.block.lo p.block.hi) c.place.ensures.traced
    (idle-trans c.place.new.self c.reserve.new.self c.owe_write.new.self i c.in_err-owe_write.ensures.err)

pub returns-clause-ok : goal.returns-clause-ok
returns-clause-ok g c =
    let i : Idles c.place.new.self c.reserve.new.self = idle-reserve c.place.new.self c.reserve.new.self c.reserve.ensures.same c.reserve.ensures.spaces c.reserve.ensures.kept in
    record {
      before = c.reserve.new.self;
      serves = serves-trans c.args.self.now c.place.new.self c.reserve.new.self c.is_sound.ensures c.place.ensures.serves (serves-idle c.place.new.self c.reserve.new.self i);
      owes = c.in_ok-owe_write.ensures.ok;
    }

pub returns-clause-home : goal.returns-clause-home
returns-clause-home g c =
    (c.in_ok-owe_write.ensures.ok.copies c.in_ok-copy.copy.id).home ∙ ap (λ (x : DirectoryView). home_in (copy_at x c.in_ok-copy.copy.id)) c.reserve.ensures.same ∙ c.in_ok-copy.ensures.home

pub returns-clause-traced : goal.returns-clause-traced
returns-clause-traced g c = let p = c.args.place in
    traces-owed c.args.self.now c.place.new.self c.reserve.new.self c.owe_write.new.self (home_at p.store p.space p.block.lo p.block.hi) c.place.ensures.traced
    (idle-reserve c.place.new.self c.reserve.new.self c.reserve.ensures.same c.reserve.ensures.spaces c.reserve.ensures.kept)
    c.in_ok-owe_write.ensures.ok.spaces c.owe_write.ensures.traced

pub returns-in_err-copy-clause-made : goal.returns-in_err-copy-clause-made
returns-in_err-copy-clause-made g c = let p = c.args.place in
    only-placed c.args.self.now c.place.new.self (home_at p.store p.space p.block.lo p.block.hi) c.place.ensures.places.made

pub returns-in_err-reserve-clause-made : goal.returns-in_err-reserve-clause-made
returns-in_err-reserve-clause-made g c = let p = c.args.place in let home : Home = home_at p.store p.space p.block.lo p.block.hi in
    let i : Idles c.place.new.self c.reserve.new.self = idle-reserve c.place.new.self c.reserve.new.self c.reserve.ensures.same c.reserve.ensures.spaces c.reserve.ensures.kept in
    only-homes c.args.self.now c.place.new.self c.reserve.new.self home (λ q. (i.copies q).home) (only-placed c.args.self.now c.place.new.self home c.place.ensures.places.made)

pub returns-in_err-owe_write-clause-made : goal.returns-in_err-owe_write-clause-made
returns-in_err-owe_write-clause-made g c = let p = c.args.place in let home : Home = home_at p.store p.space p.block.lo p.block.hi in
    let i : Idles c.place.new.self c.reserve.new.self = idle-reserve c.place.new.self c.reserve.new.self c.reserve.ensures.same c.reserve.ensures.spaces c.reserve.ensures.kept in
    only-homes c.args.self.now c.place.new.self c.owe_write.new.self home
    (λ q. ((idle-trans c.place.new.self c.reserve.new.self c.owe_write.new.self i c.in_err-owe_write.ensures.err).copies q).home)
    (only-placed c.args.self.now c.place.new.self home c.place.ensures.places.made)

pub returns-clause-made : goal.returns-clause-made
returns-clause-made g c = let p = c.args.place in let home : Home = home_at p.store p.space p.block.lo p.block.hi in
    let i : Idles c.place.new.self c.reserve.new.self = idle-reserve c.place.new.self c.reserve.new.self c.reserve.ensures.same c.reserve.ensures.spaces c.reserve.ensures.kept in
    only-homes c.args.self.now c.place.new.self c.owe_write.new.self home
    (λ q. (c.in_ok-owe_write.ensures.ok.copies q).home ∙ (i.copies q).home)
    (only-placed c.args.self.now c.place.new.self home c.place.ensures.places.made)

pub returns-clause-kept : goal.returns-clause-kept
returns-clause-kept g c =
    let a = c.args.self.now in
    let b = c.place.new.self in
    let r = c.reserve.new.self in
    let n = c.owe_write.new.self in
    let i : Idles b r = idle-reserve b r c.reserve.ensures.same c.reserve.ensures.spaces c.reserve.ensures.kept in
    left-kept a n c.args.place.space (λ q there. kept-trans (copy_at a q) (copy_at b q) (copy_at n q) (c.place.ensures.places.kept q there)
    (kept-trans (copy_at b q) (copy_at r q) (copy_at n q) (i.copies q) (c.in_ok-owe_write.ensures.ok.copies q)))
