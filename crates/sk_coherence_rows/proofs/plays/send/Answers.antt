use Rattle.std.proofs.Common.{◌≡◌, ◌-◌, [], ◌∷◌, List, arith, rules, subst}
use Rattle.sk_spaces.specs.Machine.{Home}
use Rattle.sk_copies.specs.declared.Transfer.{Transfer}
use Rattle.sk_coherence.specs.Later.{IsToSend, AreLeft}
use Rattle.sk_coherence_rows.proofs.FlyingLemmas.{left-can, left-apart, left-stale, left-pinned, left-room, left-flying, left-new, left-more, left-others, left-pins, left-keeps}
use Rattle.sk_coherence_rows.proofs.plays.send.Goals as goal

pub send-message-requires-clause-can : goal.send-message-requires-clause-can
send-message-requires-clause-can c =
    let b = c.acquire_later.new.self in
    let r = c.reserve_sends.new.self in
    let copy = c.in_ok-copy.copy.id in
    let t = c.in_ok-transfer.transfer in
    let e = c.in_ok-copy.ensures in
    let home : Home = record { store = c.args.vector.store.id; space = c.args.space; lo = c.args.block.lo; hi = c.args.block.hi } in
    let items : c.in_ok-copy.transfers.items ≡ t ∷ [] = search rules in
    let left : IsToSend b copy t = (subst (λ (ts : List Transfer). AreLeft b copy c.args.block.lo c.args.block.hi ts) items e.left).0 in
    left-can b r copy home t e.home c.requires.far left c.reserve_sends.ensures.makes

pub send-message-requires-clause-apart : goal.send-message-requires-clause-apart
send-message-requires-clause-apart c =
    let b = c.acquire_later.new.self in
    let r = c.reserve_sends.new.self in
    let copy = c.in_ok-copy.copy.id in
    let t = c.in_ok-transfer.transfer in
    let e = c.in_ok-copy.ensures in
    let home : Home = record { store = c.args.vector.store.id; space = c.args.space; lo = c.args.block.lo; hi = c.args.block.hi } in
    let items : c.in_ok-copy.transfers.items ≡ t ∷ [] = search rules in
    let left : IsToSend b copy t = (subst (λ (ts : List Transfer). AreLeft b copy c.args.block.lo c.args.block.hi ts) items e.left).0 in
    left-apart b r copy home t e.home c.requires.far left c.reserve_sends.ensures.makes

pub send-message-requires-clause-stale : goal.send-message-requires-clause-stale
send-message-requires-clause-stale c =
    let b = c.acquire_later.new.self in
    let r = c.reserve_sends.new.self in
    let copy = c.in_ok-copy.copy.id in
    let t = c.in_ok-transfer.transfer in
    let e = c.in_ok-copy.ensures in
    let home : Home = record { store = c.args.vector.store.id; space = c.args.space; lo = c.args.block.lo; hi = c.args.block.hi } in
    let items : c.in_ok-copy.transfers.items ≡ t ∷ [] = search rules in
    let left : IsToSend b copy t = (subst (λ (ts : List Transfer). AreLeft b copy c.args.block.lo c.args.block.hi ts) items e.left).0 in
    left-stale b r copy home t e.home c.requires.far left c.reserve_sends.ensures.makes

pub send-message-requires-clause-pinned : goal.send-message-requires-clause-pinned
send-message-requires-clause-pinned c =
    let b = c.acquire_later.new.self in
    let r = c.reserve_sends.new.self in
    let copy = c.in_ok-copy.copy.id in
    let t = c.in_ok-transfer.transfer in
    let e = c.in_ok-copy.ensures in
    let home : Home = record { store = c.args.vector.store.id; space = c.args.space; lo = c.args.block.lo; hi = c.args.block.hi } in
    let items : c.in_ok-copy.transfers.items ≡ t ∷ [] = search rules in
    let left : IsToSend b copy t = (subst (λ (ts : List Transfer). AreLeft b copy c.args.block.lo c.args.block.hi ts) items e.left).0 in
    left-pinned b r copy home t e.home c.requires.far left c.reserve_sends.ensures.makes e.pinned

pub send-message-requires-clause-room : goal.send-message-requires-clause-room
send-message-requires-clause-room c =
    let b = c.acquire_later.new.self in
    let r = c.reserve_sends.new.self in
    let copy = c.in_ok-copy.copy.id in
    let t = c.in_ok-transfer.transfer in
    let e = c.in_ok-copy.ensures in
    let home : Home = record { store = c.args.vector.store.id; space = c.args.space; lo = c.args.block.lo; hi = c.args.block.hi } in
    let items : c.in_ok-copy.transfers.items ≡ t ∷ [] = search rules in
    let left : IsToSend b copy t = (subst (λ (ts : List Transfer). AreLeft b copy c.args.block.lo c.args.block.hi ts) items e.left).0 in
    let len : c.len.result ≡ t.range.hi - t.range.lo = omega (arith, c.len.ensures) in
    left-room b r copy home t e.home c.requires.far left c.reserve_sends.ensures.makes c.len.result (t.range.hi - t.range.lo) c.is_sound.ensures c.in_ok-reserve_sends.ensures.ok len

pub returns-clause-flying : goal.returns-clause-flying
returns-clause-flying c =
    let b = c.acquire_later.new.self in
    let r = c.reserve_sends.new.self in
    let copy = c.in_ok-copy.copy.id in
    let t = c.in_ok-transfer.transfer in
    let e = c.in_ok-copy.ensures in
    let home : Home = record { store = c.args.vector.store.id; space = c.args.space; lo = c.args.block.lo; hi = c.args.block.hi } in
    let items : c.in_ok-copy.transfers.items ≡ t ∷ [] = search rules in
    let left : IsToSend b copy t = (subst (λ (ts : List Transfer). AreLeft b copy c.args.block.lo c.args.block.hi ts) items e.left).0 in
    left-flying b r copy home t e.home c.requires.far left c.reserve_sends.ensures.makes c.args.dir.now c.send-message.new.self c.send-message.result e.ok c.send-message.ensures.sent e.pinned

pub returns-clause-new : goal.returns-clause-new
returns-clause-new c =
    let b = c.acquire_later.new.self in
    let r = c.reserve_sends.new.self in
    let copy = c.in_ok-copy.copy.id in
    let t = c.in_ok-transfer.transfer in
    let e = c.in_ok-copy.ensures in
    let home : Home = record { store = c.args.vector.store.id; space = c.args.space; lo = c.args.block.lo; hi = c.args.block.hi } in
    let items : c.in_ok-copy.transfers.items ≡ t ∷ [] = search rules in
    let left : IsToSend b copy t = (subst (λ (ts : List Transfer). AreLeft b copy c.args.block.lo c.args.block.hi ts) items e.left).0 in
    left-new b r copy home t e.home c.requires.far left c.reserve_sends.ensures.makes c.args.dir.now c.send-message.new.self c.send-message.result e.ok c.send-message.ensures.sent

pub returns-clause-pinned : goal.returns-clause-pinned
returns-clause-pinned c =
    let b = c.acquire_later.new.self in
    let r = c.reserve_sends.new.self in
    let copy = c.in_ok-copy.copy.id in
    let t = c.in_ok-transfer.transfer in
    let e = c.in_ok-copy.ensures in
    let home : Home = record { store = c.args.vector.store.id; space = c.args.space; lo = c.args.block.lo; hi = c.args.block.hi } in
    let items : c.in_ok-copy.transfers.items ≡ t ∷ [] = search rules in
    let left : IsToSend b copy t = (subst (λ (ts : List Transfer). AreLeft b copy c.args.block.lo c.args.block.hi ts) items e.left).0 in
    left-more b r copy home t e.home c.requires.far left c.reserve_sends.ensures.makes c.args.dir.now c.send-message.new.self c.send-message.result e.ok c.send-message.ensures.sent e.pinned

pub returns-clause-others : goal.returns-clause-others
returns-clause-others c =
    let b = c.acquire_later.new.self in
    let r = c.reserve_sends.new.self in
    let copy = c.in_ok-copy.copy.id in
    let t = c.in_ok-transfer.transfer in
    let e = c.in_ok-copy.ensures in
    let home : Home = record { store = c.args.vector.store.id; space = c.args.space; lo = c.args.block.lo; hi = c.args.block.hi } in
    let items : c.in_ok-copy.transfers.items ≡ t ∷ [] = search rules in
    let left : IsToSend b copy t = (subst (λ (ts : List Transfer). AreLeft b copy c.args.block.lo c.args.block.hi ts) items e.left).0 in
    left-others b r copy home t e.home c.requires.far left c.reserve_sends.ensures.makes c.args.dir.now c.send-message.new.self c.send-message.result e.ok c.send-message.ensures.sent

pub returns-clause-pins : goal.returns-clause-pins
returns-clause-pins c =
    let b = c.acquire_later.new.self in
    let r = c.reserve_sends.new.self in
    let copy = c.in_ok-copy.copy.id in
    let t = c.in_ok-transfer.transfer in
    let e = c.in_ok-copy.ensures in
    let home : Home = record { store = c.args.vector.store.id; space = c.args.space; lo = c.args.block.lo; hi = c.args.block.hi } in
    let items : c.in_ok-copy.transfers.items ≡ t ∷ [] = search rules in
    let left : IsToSend b copy t = (subst (λ (ts : List Transfer). AreLeft b copy c.args.block.lo c.args.block.hi ts) items e.left).0 in
    left-pins b r copy home t e.home c.requires.far left c.reserve_sends.ensures.makes c.args.dir.now c.send-message.new.self c.send-message.result e.ok c.send-message.ensures.sent

pub returns-clause-keeps : goal.returns-clause-keeps
returns-clause-keeps c =
    let b = c.acquire_later.new.self in
    let r = c.reserve_sends.new.self in
    let copy = c.in_ok-copy.copy.id in
    let t = c.in_ok-transfer.transfer in
    let e = c.in_ok-copy.ensures in
    let home : Home = record { store = c.args.vector.store.id; space = c.args.space; lo = c.args.block.lo; hi = c.args.block.hi } in
    let items : c.in_ok-copy.transfers.items ≡ t ∷ [] = search rules in
    let left : IsToSend b copy t = (subst (λ (ts : List Transfer). AreLeft b copy c.args.block.lo c.args.block.hi ts) items e.left).0 in
    left-keeps b r copy home t e.home c.requires.far left c.reserve_sends.ensures.makes c.args.dir.now c.send-message.new.self c.send-message.result e.ok c.send-message.ensures.sent
