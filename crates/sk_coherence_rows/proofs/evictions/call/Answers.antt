use Rattle.sk_coherence_rows.proofs.FullLemmas.{keeps-trans, keeps-unpins}
use Rattle.sk_coherence_rows.proofs.evictions.call.Goals as goal

pub returns : goal.returns
returns c =
    let a = c.args.dir.now in
    let o = c.open.new.dir in
    let r = c.read.new.dir in
    let s = c.read-2.new.dir in
    let w = c.write.new.dir in
    let u = c.unpin.new.self in
    let n = c.unpin-2.new.self in
    record {
      keeps = keeps-trans a o n c.in_ok-result.ensures.keeps
          (keeps-trans o r n c.in_ok-one.ensures.keeps
          (keeps-trans r s n c.in_ok-other.ensures.keeps
          (keeps-trans s w n c.in_ok-write.ensures.keeps
          (keeps-trans w u n
          (keeps-unpins w u c.in_ok-one.one.id c.unpin.ensures.unpinned c.unpin.ensures.others c.unpin.ensures.same)
          (keeps-unpins u n c.in_ok-other.other.id c.unpin-2.ensures.unpinned c.unpin-2.ensures.others c.unpin-2.ensures.same)))));
    }
