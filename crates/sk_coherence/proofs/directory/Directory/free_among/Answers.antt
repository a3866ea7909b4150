use Rattle.std.proofs.Common.{arith}
use Rattle.sk_copy_states.specs.Copies.{LiesAmong, home_in}
use Rattle.sk_coherence_laws.specs.Directory.{copy_at}
use Rattle.sk_coherence.proofs.LeaveSums.{some_among, one-less, same-owed, thins-more, leads-more}
use Rattle.sk_coherence.proofs.directory.Directory.free_among.Goals as goal

pub let_go-requires-clause-ready : goal.let_go-requires-clause-ready
let_go-requires-clause-ready g c = let b = c.copies.self in
    omega (arith, some_among b c.args.store.id c.args.range.lo c.args.range.hi c.in-Some.copy.id c.is_sound-in-Some.ensures c.in-Some.ensures.found, c.copies.invariant.ready)

pub copies-preserved : goal.copies-preserved
copies-preserved g c =
    let a = c.args.self.now in
    let b = c.copies.self in
    let n = c.let_go-in-Some.new.self in
    let s = c.args.store.id in
    let lo = c.args.range.lo in
    let hi = c.args.range.hi in
    let id = c.in-Some.copy.id in
    let v = c.copies.invariant in
    let is : LiesAmong s lo hi (home_in (copy_at b id)) = c.in-Some.ensures.found in
    let f = c.let_go-in-Some.ensures.freed in
    record {
      thins = thins-more b n s lo hi id c.is_sound-in-Some.ensures is f a v.thins;
      ready = omega (arith, v.ready, c.let_go-in-Some.ensures.ready, one-less b n s lo hi id c.is_sound-in-Some.ensures is f, same-owed b n s lo hi id c.is_sound-in-Some.ensures is f);
      traced = leads-more b n s lo hi id c.is_sound-in-Some.ensures is f a v.traced;
    }
