use Rattle.std.proofs.Common.{ℕ, Option}
use Rattle.sk_ranges.specs.declared.state.State.TheVariants.{Stale}
use Rattle.sk_copy_states.specs.declared.held.Held.{Held}
use Rattle.sk_copy_states.specs.Copies.{held_in, SetsAt, IsReady}
use Rattle.sk_copy_states.proofs.ListedLemmas.{listed_ready, listed_done, listed_others}
use Rattle.sk_copy_states.proofs.copies.stale_all.Goals as goal

pub stale_one-requires : goal.stale_one-requires
stale_one-requires c =
    let v = c.ids.invariant in
    record { ready = listed_ready (IsReady 1) (held_in c.args.copies.now.entries) (held_in c.ids.copies.entries) c.args.ids.now c.ids.at c.requires.distinct c.ids-test.true v.others c.requires.ready }

pub ids-preserved : goal.ids-preserved
ids-preserved c =
    let v = c.ids.invariant in
    let e = c.stale_one.ensures in
    let first : ℕ → Option Held = held_in c.args.copies.now.entries in
    let now : ℕ → Option Held = held_in c.ids.copies.entries in
    let next : ℕ → Option Held = held_in c.stale_one.new.copies.entries in
    record {
      done = listed_done (λ o p. SetsAt o p c.args.range.lo c.args.range.hi Stale) (λ q. Unit {0}) first now next c.args.ids.now c.ids.at c.requires.distinct c.ids-test.true v.done v.others (λ which. e.staled) e.others;
      others = listed_others first now next c.args.ids.now c.ids.at v.others e.others;
    }
