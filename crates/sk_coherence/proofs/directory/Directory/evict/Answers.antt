use Rattle.std.proofs.Common.{sym, ◌∙◌}
use Rattle.sk_coherence_laws.specs.Directory.{copy_at}
use Rattle.sk_coherence_laws.specs.Moves.{Idles}
use Rattle.sk_coherence_laws.proofs.NamedMoves.{on_err_any}
use Rattle.sk_coherence_laws.proofs.ServesLemmas.{idle-reserve}
use Rattle.sk_coherence_laws.proofs.TracedWrite.{some_home}
use Rattle.sk_coherence.proofs.RetreatLemmas.{retreats-trans, retreats-idle}
use Rattle.sk_coherence.proofs.EvictLemmas.{evicted, evicted-made, evicted-serves, evicted-traced}
use Rattle.sk_coherence.proofs.directory.Directory.evict.Goals as goal

pub free-requires-clause-there : goal.free-requires-clause-there
free-requires-clause-there g c = let a = c.args.self.now in let b = c.retreat.new.self in let k = c.reserve.new.self in
    let i : Idles b k = idle-reserve b k c.reserve.ensures.same c.reserve.ensures.spaces c.reserve.ensures.kept in
    some_home (copy_at a c.args.copy.id) (copy_at k c.args.copy.id)
    (sym ((retreats-trans a b k c.args.copy.id c.is_sound.ensures c.retreat.ensures.retreats (retreats-idle b k c.args.copy.id i)).stays c.args.copy.id c.requires.there).home)
    c.requires.there

pub free-requires-clause-owns_none : goal.free-requires-clause-owns_none
free-requires-clause-owns_none g c = let b = c.retreat.new.self in let k = c.reserve.new.self in
    let i : Idles b k = idle-reserve b k c.reserve.ensures.same c.reserve.ensures.spaces c.reserve.ensures.kept in
    λ j own. c.in_ok-retreat.ensures.ok j (sym ((i.copies c.args.copy.id).states j) ∙ own)

pub returns-in_err-retreat-clause-serves : goal.returns-in_err-retreat-clause-serves
returns-in_err-retreat-clause-serves g c = c.retreat.ensures.retreats.serves

pub returns-in_err-retreat-clause-traced : goal.returns-in_err-retreat-clause-traced
returns-in_err-retreat-clause-traced g c = c.retreat.ensures.retreats.traced

pub returns-in_err-reserve-clause-serves : goal.returns-in_err-reserve-clause-serves
returns-in_err-reserve-clause-serves g c = let a = c.args.self.now in let b = c.retreat.new.self in let k = c.reserve.new.self in
    let i : Idles b k = idle-reserve b k c.reserve.ensures.same c.reserve.ensures.spaces c.reserve.ensures.kept in
    (retreats-trans a b k c.args.copy.id c.is_sound.ensures c.retreat.ensures.retreats (retreats-idle b k c.args.copy.id i)).serves

pub returns-in_err-reserve-clause-traced : goal.returns-in_err-reserve-clause-traced
returns-in_err-reserve-clause-traced g c = let a = c.args.self.now in let b = c.retreat.new.self in let k = c.reserve.new.self in
    let i : Idles b k = idle-reserve b k c.reserve.ensures.same c.reserve.ensures.spaces c.reserve.ensures.kept in
    (retreats-trans a b k c.args.copy.id c.is_sound.ensures c.retreat.ensures.retreats (retreats-idle b k c.args.copy.id i)).traced

pub returns-clause-ok : goal.returns-clause-ok
returns-clause-ok g c = let a = c.args.self.now in let b = c.retreat.new.self in let k = c.reserve.new.self in
    let i : Idles b k = idle-reserve b k c.reserve.ensures.same c.reserve.ensures.spaces c.reserve.ensures.kept in
    evicted a b k c.free.new.self c.args.copy.id c.is_sound.ensures c.is_sound-2.ensures c.requires.there c.requires.far c.requires.unpinned
    c.retreat.ensures.retreats i c.in_ok-retreat.ensures.ok c.free.ensures.freed

pub returns-clause-serves : goal.returns-clause-serves
returns-clause-serves g c = let a = c.args.self.now in let b = c.retreat.new.self in let k = c.reserve.new.self in
    let i : Idles b k = idle-reserve b k c.reserve.ensures.same c.reserve.ensures.spaces c.reserve.ensures.kept in
    evicted-serves a b k c.free.new.self c.args.copy.id c.is_sound.ensures c.is_sound-2.ensures c.requires.there c.requires.far c.requires.unpinned
    c.retreat.ensures.retreats i c.in_ok-retreat.ensures.ok c.free.ensures.freed

pub returns-clause-traced : goal.returns-clause-traced
returns-clause-traced g c = let a = c.args.self.now in let b = c.retreat.new.self in let k = c.reserve.new.self in
    let i : Idles b k = idle-reserve b k c.reserve.ensures.same c.reserve.ensures.spaces c.reserve.ensures.kept in
    evicted-traced a b k c.free.new.self c.args.copy.id c.is_sound.ensures c.is_sound-2.ensures c.requires.there c.requires.far c.requires.unpinned
    c.retreat.ensures.retreats i c.in_ok-retreat.ensures.ok c.free.ensures.freed c.free.ensures.traced

pub returns-in_err-retreat-clause-made : goal.returns-in_err-retreat-clause-made
returns-in_err-retreat-clause-made g c = c.retreat.ensures.retreats.made

pub returns-in_err-reserve-clause-made : goal.returns-in_err-reserve-clause-made
returns-in_err-reserve-clause-made g c = let a = c.args.self.now in let b = c.retreat.new.self in let k = c.reserve.new.self in
    let i : Idles b k = idle-reserve b k c.reserve.ensures.same c.reserve.ensures.spaces c.reserve.ensures.kept in
    (retreats-trans a b k c.args.copy.id c.is_sound.ensures c.retreat.ensures.retreats (retreats-idle b k c.args.copy.id i)).made

pub returns-clause-made : goal.returns-clause-made
returns-clause-made g c = let a = c.args.self.now in let b = c.retreat.new.self in let k = c.reserve.new.self in
    let i : Idles b k = idle-reserve b k c.reserve.ensures.same c.reserve.ensures.spaces c.reserve.ensures.kept in
    evicted-made a b k c.free.new.self c.args.copy.id c.is_sound.ensures c.is_sound-2.ensures c.requires.there c.requires.far c.requires.unpinned
    c.retreat.ensures.retreats i c.in_ok-retreat.ensures.ok c.free.ensures.freed

pub returns-in_err-retreat-clause-stands : goal.returns-in_err-retreat-clause-stands
returns-in_err-retreat-clause-stands g c = let a = c.args.self.now in let b = c.retreat.new.self in
    on_err_any c.from_residual.result
    (some_home (copy_at a c.args.copy.id) (copy_at b c.args.copy.id) (sym (c.retreat.ensures.retreats.stays c.args.copy.id c.requires.there).home) c.requires.there)

pub returns-in_err-reserve-clause-stands : goal.returns-in_err-reserve-clause-stands
returns-in_err-reserve-clause-stands g c = let a = c.args.self.now in let b = c.retreat.new.self in let k = c.reserve.new.self in
    let i : Idles b k = idle-reserve b k c.reserve.ensures.same c.reserve.ensures.spaces c.reserve.ensures.kept in
    on_err_any c.from_residual-in_err-reserve.result
    (some_home (copy_at a c.args.copy.id) (copy_at k c.args.copy.id)
    (sym ((retreats-trans a b k c.args.copy.id c.is_sound.ensures c.retreat.ensures.retreats (retreats-idle b k c.args.copy.id i)).stays c.args.copy.id c.requires.there).home) c.requires.there)
