use Rattle.std.proofs.Common.{◌≡◌, ℕ, ℤ, length, subst, ap, w64}
use Rattle.std.proofs.lemmas.Int.{to_z-of_z}
use Rattle.sk_spaces.specs.declared.step.Step.TheVariants as line
use Rattle.sk_coherence_laws.specs.Directory.{store_at}
use Rattle.sk_coherence_laws.specs.HostBlocks.{home_at}
use Rattle.sk_coherence_laws.specs.Steps.{Traces, IsAlloc}
use Rattle.sk_coherence_laws.proofs.NamedMoves.{on_err_any}
use Rattle.sk_container.specs.Changes.{Writes}
use Rattle.sk_container.specs.Lines.{TracesOne}
use Rattle.sk_container.proofs.HostLines.{lies-so}
use Rattle.sk_container.proofs.AlterLemmas.{writes-put, some-there}
use Rattle.sk_container.proofs.PartLemmas.{len_same}
use Rattle.sk_container.proofs.host.fill_all.Goals as goal

pub returns-clause-written : goal.returns-clause-written
returns-clause-written g c =
    let a = c.args.dir.now in let x = c.in_ok-copy.ensures in let s = c.args.store.id in
    let all : c.cells.result ≡ length c.args.cells.now = len_same (store_at a s) c.shape.result.now c.cells.result (length c.args.cells.now) c.shape.ensures c.cells.ensures.value c.requires.all in
    subst (λ (n : ℕ). Writes a c.put.new.dir s 0 n c.args.cells.now) all
    (writes-put a x.ok.before c.acquire_write.new.dir s 0 c.in_ok-copy.copy.id 0 c.cells.result (some-there a s (λ (n : ℕ). length c.args.cells.now ≡ n) c.requires.all) x.ok.serves x.ok.owes x.home
    c.put.new.dir 0 c.cells.result c.args.cells.now c.is_sound.ensures c.put.ensures.puts)

pub returns-in_err-copy-clause-traced : goal.returns-in_err-copy-clause-traced
returns-in_err-copy-clause-traced g c =
    let a = c.args.dir.now in let n = c.acquire_write.new.dir in let s = c.args.store.id in let k = length c.args.cells.now in
    let all : c.cells.result ≡ k = len_same (store_at a s) c.shape.result.now c.cells.result k c.shape.ensures c.cells.ensures.value c.requires.all in
    on_err_any c.from_residual.result (subst (λ (h : ℕ). Traces (IsAlloc (home_at s 0 0 h)) a n) all c.in_err-copy.ensures.traced)

pub returns-clause-noted : goal.returns-clause-noted
returns-clause-noted g c =
    let a = c.args.dir.now in let n = c.acquire_write.new.dir in let s = c.args.store.id in let k = length c.args.cells.now in
    let all : c.cells.result ≡ k = len_same (store_at a s) c.shape.result.now c.cells.result k c.shape.ensures c.cells.ensures.value c.requires.all in
    record {
      before = n;
      copy = c.in_ok-copy.copy.id;
      first = subst (λ (h : ℕ). Traces (IsAlloc (home_at s 0 0 h)) a n) all c.in_ok-copy.ensures.traced;
      lies = lies-so n c.in_ok-copy.copy.id (home_at s 0 0 c.cells.result) (λ home. home ≡ home_at s 0 0 k) c.in_ok-copy.ensures.home (ap (λ (h : ℕ). home_at s 0 0 h) all);
      last = subst (λ (h : ℕ). TracesOne (line.Fill c.in_ok-copy.copy.id 0 h c.args.cell) n c.put.new.dir) all
          (subst (λ (v : ℤ). TracesOne (line.Fill c.in_ok-copy.copy.id 0 c.cells.result v) n c.put.new.dir) (to_z-of_z w64 c.args.cell c.ranges.cell) c.put.ensures.noted);
    }
