use Rattle.std.proofs.Common.{◌≡◌, ◌≢◌, ℕ, Option, Some, IsSome, arith, sym, subst, ap, ◌∙◌}
use Rattle.sk_copy_states.specs.Copies.{LiesAmong, home_in, store_in}
use Rattle.sk_copy_states.specs.Stores.{StoreView, len_in}
use Rattle.sk_coherence_laws.specs.Directory.{DirectoryView, copy_at, store_at}
use Rattle.sk_coherence_laws.specs.Moves.{Idles}
use Rattle.sk_coherence_laws.specs.Retires.{Thins, IsClosing, IsFreeing, IsLikeBut, Leads}
use Rattle.sk_coherence_laws.specs.Steps.{Traces}
use Rattle.sk_coherence_laws.specs.Traced.{IsLike}
use Rattle.sk_coherence_laws.proofs.ServesLemmas.{idle-reserve}
use Rattle.sk_coherence_laws.proofs.FillSums.{traces-idle}
use Rattle.sk_coherence_laws.proofs.TracesLemmas.{traces-trans}
use Rattle.sk_coherence_laws.proofs.LeadsLemmas.{leads-trans, traces-leads}
use Rattle.sk_coherence_laws.proofs.CloseLemmas.{none-left, leads-closed}
use Rattle.sk_coherence.proofs.LeaveSums.{len_shape}
use Rattle.sk_coherence.proofs.directory.Directory.close.Goals as goal

pub returns-in_err-expect_steps-clause-traced : goal.returns-in_err-expect_steps-clause-traced
returns-in_err-expect_steps-clause-traced g c =
    let a = c.args.self.now in
    let b = c.expect_steps.new.self in
    traces-idle (IsClosing c.args.store.id (len_in (store_at a c.args.store.id))) a b
    (idle-reserve a b c.expect_steps.ensures.same c.expect_steps.ensures.spaces c.expect_steps.ensures.kept)

pub returns-clause-traced : goal.returns-clause-traced
returns-clause-traced g c =
    let a = c.args.self.now in
    let b = c.expect_steps.new.self in
    let t = c.give_up.new.self in
    let u = c.free_among.new.self in
    let w = c.forget_messages.new.self in
    let n = c.forget_store.new.self in
    let s = c.args.store.id in
    let len = len_in (store_at b s) in
    let ib : Idles a b = idle-reserve a b c.expect_steps.ensures.same c.expect_steps.ensures.spaces c.expect_steps.ensures.kept in
    let there : IsSome (store_at b s) = subst (λ (o : Option StoreView). IsSome o) (sym (ib.stores s)) c.requires.there in
    let cells : c.cells.result ≡ len = len_shape (store_at b s) c.shape.result.now c.cells.result there c.shape.ensures c.cells.ensures.value in
    let given : store_at t s ≡ store_at b s = ap (λ (x : DirectoryView). store_at x s) c.give_up.ensures.same in
    let none : (q : ℕ) → LiesAmong s 0 len (home_in (copy_at u q)) → ⊥
    = subst (λ (h : ℕ). (q : ℕ) → LiesAmong s 0 h (home_in (copy_at u q)) → ⊥) cells c.free_among.ensures.gone in
    let thins : Thins t u s 0 len = subst (λ (h : ℕ). Thins t u s 0 h) cells c.free_among.ensures.thins in
    let left : (q : ℕ) → store_in (copy_at u q) ≢ Some s = none-left t u s len c.is_sound.ensures (omega (arith, ap len_in given)) thins none in
    let x : Leads (IsFreeing s 0 len) (λ m. IsLikeBut s 0 len m t) (λ m. IsLikeBut s 0 len m u) t u
    = subst (λ (h : ℕ). Leads (IsFreeing s 0 h) (λ m. IsLikeBut s 0 h m t) (λ m. IsLikeBut s 0 h m u) t u) cells c.free_among.ensures.traced in
    let last = leads-closed t u n s len none x
    (ap (λ (y : DirectoryView). y.spaces) c.forget_store.ensures.same ∙ ap (λ (y : DirectoryView). y.spaces) c.forget_messages.ensures.same)
    (λ m l. c.forget_store.ensures.traced m (c.forget_messages.ensures.traced left m l)) in
    traces-trans (IsClosing s (len_in (store_at a s))) a b n (traces-idle (IsClosing s (len_in (store_at a s))) a b ib)
    (subst (λ (h : ℕ). Traces (IsClosing s h) b n) (ap len_in (ib.stores s))
    (traces-leads (IsClosing s len) b n
    (leads-trans (IsClosing s len) (λ m. IsLike m b) (λ m. IsLikeBut s 0 len m t) (λ m. IsLike m n) b t n c.give_up.ensures.traced last)))
