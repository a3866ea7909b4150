-- What messages and room for them keep.
use Rattle.std.proofs.Common.{◌≡◌, ◌≢◌, ℕ, ◌-◌, ◌<◌, ◌≤◌, if◌then◌else◌, List, [], ◌∷◌, Bool, true, false, slice_get, nat_lt, Option, Some, None, IfSome, IsSome, IsSomeAnd, arith, ⊎_elim, refl, sym, subst, ◌∙◌, ap}
use Rattle.std.proofs.lemmas.Bool.{cases_eq}
use Rattle.std.proofs.lemmas.Option.{slice_get_past}
use Rattle.sk_base.specs.Shape.{cells_of}
use Rattle.sk_ranges.specs.declared.state.State.{State}
use Rattle.sk_ranges.specs.declared.state.State.TheVariants.{Owner}
use Rattle.sk_ranges.specs.States.{filled, FillsIn}
use Rattle.sk_spaces.specs.Machine.{Home}
use Rattle.sk_spaces.specs.Memories.{MemoriesView}
use Rattle.sk_copy_states.specs.declared.held.Held.{Held}
use Rattle.sk_copy_states.specs.Copies.{ReachesIn, home_in, home_store, state_in, pins_in, held_in}
use Rattle.sk_copy_states.specs.Stores.{StoreView, store_of}
use Rattle.sk_messages.specs.Messages.{MessagesView, Mail, mail_of, mail_or_none, next_of}
use Rattle.sk_coherence_laws.specs.Directory.{DirectoryView, copy_at, mail_at}
use Rattle.sk_coherence_laws.specs.Moves.{CanMove, IsStaleAt}
use Rattle.sk_coherence_laws.specs.Acquires.{Acquires}
use Rattle.sk_coherence_laws.specs.Sends.{HasSends, AddsSends, MakesRoom, LieApart, Sends, Delivers}
use Rattle.sk_coherence_laws.proofs.TracedWrite.{some_home}
use Rattle.sk_coherence_laws.proofs.FillLemmas.{within_or}
use Rattle.sk_coherence_laws.specs.Directory.{IsSound}
use Rattle.sk_coherence.specs.Evicts.{IsOnHost}
use Rattle.sk_coherence.specs.Later.{IsToSend}
use Rattle.sk_copies.specs.declared.Transfer.{Transfer}
use Rattle.sk_coherence_rows.specs.Flying.{IsFlying}
use Rattle.sk_coherence_rows.specs.Full.{Keeps}
use Rattle.sk_coherence_rows.proofs.FullLemmas.{keeps-owned, keeps-trans, keeps-acquires, pins-acquires, pinned-acquires, pinned-there}

abbrev first_of : Option Home → ℕ
first_of None = 0
first_of (Some home) = home.lo

abbrev end_of : Option Home → ℕ
end_of None = 0
end_of (Some home) = home.hi

-- a copy that lies where it did reaches as far
reaches_still : (o p : Option Held) (lo hi : ℕ) → home_in p ≡ home_in o → ReachesIn o lo hi → ReachesIn p lo hi
reaches_still o None lo hi same is = tt
reaches_still None (Some p) lo hi same is = cc
reaches_still (Some o) (Some p) lo hi same is = (omega (arith, ap first_of same, is.0), omega (arith, ap end_of same, is.1))

-- a message keeps flying where the messages are the same and copies are pinned no less often
pub flying-on : (a b : DirectoryView) (k q : ℕ) → mail_at b k ≡ mail_at a k → pins_in (copy_at a q) ≤ pins_in (copy_at b q) → IsFlying a k q → IsFlying b k q
flying-on a b k q same pins is = record {
  flying = subst (λ (o : Option Mail). IsSomeAnd o (λ mail. mail.target ≡ q)) (sym same) is.flying;
  pinned = omega (arith, is.pinned, pins);
}

messages-acquires : (a b : DirectoryView) (copy : ℕ) → Acquires a b copy → b.messages ≡ a.messages
messages-acquires a b copy x = ap (λ (d : DirectoryView). d.messages) x.pins.rest ∙ x.serves.messages

pub flying-acquires : (a b : DirectoryView) (copy : ℕ) → Acquires a b copy → (k q : ℕ) → IsFlying a k q → IsFlying b k q
flying-acquires a b copy x k q = flying-on a b k q (ap (λ (m : MessagesView). mail_of m k) (messages-acquires a b copy x)) (pins-acquires a b copy x q)

-- there is no message yet with the next number
none-next : (m : MessagesView) → mail_of m (next_of m) ≡ None
none-next m = by (nat_lt (next_of m) m.first) (mail_or_none (slice_get m.mails (next_of m - m.first)))
    (ap mail_or_none (slice_get_past m.mails (next_of m - m.first) (omega arith)))
  where
    by : (t : Bool) (o : Option Mail) → o ≡ None → (if t then None else o) ≡ None
    by true o none = refl
    by false o none = none

-- a message in flight is none of those that are not
pub flying-apart : (d : DirectoryView) (k number q : ℕ) → mail_at d number ≡ None → IsFlying d k q → k ≢ number
flying-apart d k number q none flying same = gone (mail_at d k) (ap (mail_at d) same ∙ none) flying.flying
  where
    gone : (o : Option Mail) → o ≡ None → IsSomeAnd o (λ mail. mail.target ≡ q) → ⊥
    gone None none is = is
    gone (Some mail) none is = cc

-- what room for messages keeps
module _ (a b : DirectoryView) (made : MakesRoom a b) where
  homes : (q : ℕ) → home_in (copy_at b q) ≡ home_in (copy_at a q)
  homes q = (made.copies q).1.home

  pub roomed-there : (q : ℕ) → IsSome (copy_at a q) → IsSome (copy_at b q)
  roomed-there q = some_home (copy_at a q) (copy_at b q) (sym (homes q))

  pub roomed-pins : (q : ℕ) → pins_in (copy_at b q) ≡ pins_in (copy_at a q)
  roomed-pins q = (made.copies q).1.pins

  pub roomed-can : (from to lo hi : ℕ) → CanMove a from to lo hi → CanMove b from to lo hi
  roomed-can from to lo hi can = record {
    source = roomed-there from can.source;
    target = roomed-there to can.target;
    store = ap home_store (homes from) ∙ can.store ∙ ap home_store (sym (homes to));
    apart = can.apart;
    from_reaches = reaches_still (copy_at a from) (copy_at b from) lo hi (homes from) can.from_reaches;
    to_reaches = reaches_still (copy_at a to) (copy_at b to) lo hi (homes to) can.to_reaches;
    readable = λ i above below e. can.readable i above below (sym ((made.copies from).1.states i) ∙ e);
  }

  pub roomed-stale : (q lo hi : ℕ) → IsStaleAt a q lo hi → IsStaleAt b q lo hi
  roomed-stale q lo hi is i above below = (made.copies q).1.states i ∙ is i above below

  pub roomed-apart : (from to : ℕ) → LieApart a from to → LieApart b from to
  roomed-apart from to is =
      subst (λ (o : Option Home). IfSome o (λ one. IfSome (home_in (copy_at b to)) (λ other. one.space ≢ other.space))) (sym (homes from))
      (subst (λ (o : Option Home). IfSome (home_in (copy_at a from)) (λ one. IfSome o (λ other. one.space ≢ other.space))) (sym (homes to)) is)

  pub roomed-flying : (k q : ℕ) → IsFlying a k q → IsFlying b k q
  roomed-flying k q = flying-on a b k q (made.messages.mails k) (omega (arith, roomed-pins q))

  pub roomed-keeps : Keeps a b
  roomed-keeps = keeps-owned a b (λ q some. homes q) (λ q i some own. (made.copies q).1.states i ∙ own)
      (λ s n is. subst (λ (o : Option StoreView). IsSomeAnd o (λ store. cells_of store.shape ≡ n)) (sym (ap (λ (x : List (ℕ × StoreView)). store_of x s) made.stores)) is)
      (ap (λ (x : MemoriesView). x.ranks) made.spaces.memories)

-- a copy on the host lies apart from one on a rank
pub host-apart : (d : DirectoryView) (from to space : ℕ) → IsOnHost (copy_at d from) → IfSome (home_in (copy_at d to)) (λ home. home.space ≡ space) → 0 < space → LieApart d from to
host-apart d from to space host far some = on (home_in (copy_at d from)) (home_in (copy_at d to)) host far
  where
    on : (o p : Option Home) → IfSome o (λ home. home.space ≡ 0) → IfSome p (λ home. home.space ≡ space) → IfSome o (λ one. IfSome p (λ other. one.space ≢ other.space))
    on None p h f = tt
    on (Some o) None h f = tt
    on (Some o) (Some p) h f = λ e. omega (arith, e, h, f, some)

-- a sound directory has room for no message at least
pub has-none : (d : DirectoryView) → IsSound d → HasSends d [] 0
has-none d sound = record {
  messages = omega arith;
  cells = omega arith;
  steps = omega (arith, sound.mailed.steps);
  deliveries = λ q some. omega (arith, sound.mailed.deliveries q some);
}

-- what a sending keeps
module _ (a b : DirectoryView) (number from to lo hi : ℕ) (sent : Sends a b number from to lo hi) where
  same_copy : (q : ℕ) → copy_at b q ≡ copy_at a q
  same_copy q = ap (λ (es : List (ℕ × Held)). held_in es q) sent.copies

  pub sent-pins : (q : ℕ) → pins_in (copy_at b q) ≡ pins_in (copy_at a q)
  sent-pins q = ap pins_in (same_copy q)

  pub sent-new : mail_at a number ≡ None
  sent-new = ap (mail_at a) sent.puts.number_is ∙ none-next a.messages

  pub sent-flying : 0 < pins_in (copy_at a to) → IsFlying b number to
  sent-flying pinned = record {
    flying = subst (λ (o : Option Mail). IsSomeAnd o (λ mail. mail.target ≡ to)) (sym sent.puts.here) sent.is_from.target;
    pinned = omega (arith, pinned, sent-pins to);
  }

  pub sent-others : (k q : ℕ) → IsFlying a k q → IsFlying b k q
  sent-others k q is = flying-on a b k q (sent.puts.others k (flying-apart a k number q sent-new is)) (omega (arith, sent-pins q)) is

  pub sent-keeps : Keeps a b
  sent-keeps = keeps-owned a b (λ q some. ap home_in (same_copy q)) (λ q i some own. ap (λ o. state_in o i) (same_copy q) ∙ own)
      (λ s n is. subst (λ (o : Option StoreView). IsSomeAnd o (λ store. cells_of store.shape ≡ n)) (sym (ap (λ (x : List (ℕ × StoreView)). store_of x s) sent.stores)) is)
      (ap (λ (x : MemoriesView). x.ranks) sent.spaces.memories)

-- what is owned is owned still where a message came
owned-filled : (old new : ℕ → State) (lo hi i : ℕ) → FillsIn old new lo hi → old i ≡ Owner → new i ≡ Owner
owned-filled old new lo hi i f own = within_or (new i ≡ Owner) lo hi i
    (λ above below. f.inside i above below ∙ ap filled own)
    (λ out. ⊎_elim (λ (x : i < lo). f.before i x) (λ (x : hi ≤ i). f.after i x) out ∙ own)

-- what a delivery keeps
module _ (a b : DirectoryView) (number : ℕ) (mail : Mail) (came : Delivers a b number mail) where
  pub came-pins : (q : ℕ) → pins_in (copy_at b q) ≡ pins_in (copy_at a q)
  came-pins q = ⊎_elim
      (λ (e : q ≡ mail.target). subst (λ (x : ℕ). pins_in (copy_at b x) ≡ pins_in (copy_at a x)) (sym e) came.target.pins)
      (λ (ne : q ≢ mail.target). ap pins_in (came.others q ne))
      (cases_eq q mail.target)

  pub came-others : (k q : ℕ) → k ≢ number → IsFlying a k q → IsFlying b k q
  came-others k q ne = flying-on a b k q (came.takes.others k ne) (omega (arith, came-pins q))

  pub came-keeps : Keeps a b
  came-keeps = keeps-owned a b
      (λ q some. ⊎_elim
      (λ (e : q ≡ mail.target). subst (λ (x : ℕ). home_in (copy_at b x) ≡ home_in (copy_at a x)) (sym e) came.target.home)
      (λ (ne : q ≢ mail.target). ap home_in (came.others q ne))
      (cases_eq q mail.target))
      (λ q i some own. ⊎_elim
      (λ (e : q ≡ mail.target). subst (λ (x : ℕ). state_in (copy_at a x) i ≡ Owner → state_in (copy_at b x) i ≡ Owner) (sym e)
      (owned-filled (state_in (copy_at a mail.target)) (state_in (copy_at b mail.target)) mail.lo mail.hi i came.target.states) own)
      (λ (ne : q ≢ mail.target). ap (λ o. state_in o i) (came.others q ne) ∙ own)
      (cases_eq q mail.target))
      (λ s n is. subst (λ (o : Option StoreView). IsSomeAnd o (λ store. cells_of store.shape ≡ n)) (sym (ap (λ (x : List (ℕ × StoreView)). store_of x s) came.stores)) is)
      came.ranks

-- a message in flight is there, and its copy is
module _ (d : DirectoryView) (number copy : ℕ) (is : IsFlying d number copy) where
  pub mail-there : IsSome (mail_at d number)
  mail-there = some (mail_at d number) is.flying
    where
      some : (o : Option Mail) → IsSomeAnd o (λ mail. mail.target ≡ copy) → IsSome o
      some None is = absurd is
      some (Some mail) is = refl

  pub target-there : IfSome (mail_at d number) (λ mail. IsSome (copy_at d mail.target))
  target-there = on (mail_at d number) is.flying
    where
      on : (o : Option Mail) → IsSomeAnd o (λ mail. mail.target ≡ copy) → IfSome o (λ mail. IsSome (copy_at d mail.target))
      on None is = tt
      on (Some mail) to = subst (λ (x : ℕ). IsSome (copy_at d x)) (sym to) (pinned-there (copy_at d copy) is.pinned)

-- the same of a delivery whose message is not named
module _ (a b : DirectoryView) (number copy : ℕ) (is : IsFlying a number copy) (came : IfSome (mail_at a number) (Delivers a b number)) where
  received : (mail : Mail) × Delivers a b number mail
  received = on (mail_at a number) is.flying came
    where
      on : (o : Option Mail) → IsSomeAnd o (λ mail. mail.target ≡ copy) → IfSome o (Delivers a b number) → (mail : Mail) × Delivers a b number mail
      on None is came = absurd is
      on (Some mail) is came = (mail, came)

  pub received-pins : (q : ℕ) → pins_in (copy_at b q) ≡ pins_in (copy_at a q)
  received-pins = came-pins a b number received.0 received.1

  pub received-others : (k q : ℕ) → k ≢ number → IsFlying a k q → IsFlying b k q
  received-others = came-others a b number received.0 received.1

  pub received-keeps : Keeps a b
  received-keeps = came-keeps a b number received.0 received.1

-- a block was acquired with one message left to do, and room was made for it
module _ (b r : DirectoryView) (copy : ℕ) (home : Home) (transfer : Transfer) (lies : home_in (copy_at b copy) ≡ Some home) (far : 0 < home.space)
    (left : IsToSend b copy transfer) (made : MakesRoom b r) where
  pub left-can : CanMove r transfer.from.id transfer.to.id transfer.range.lo transfer.range.hi
  left-can = subst (λ (x : ℕ). CanMove r transfer.from.id x transfer.range.lo transfer.range.hi) (sym left.to)
      (roomed-can b r made transfer.from.id copy transfer.range.lo transfer.range.hi left.can)

  pub left-stale : IsStaleAt r transfer.to.id transfer.range.lo transfer.range.hi
  left-stale = subst (λ (x : ℕ). IsStaleAt r x transfer.range.lo transfer.range.hi) (sym left.to) (roomed-stale b r made copy transfer.range.lo transfer.range.hi left.stale)

  pub left-apart : LieApart r transfer.from.id transfer.to.id
  left-apart = subst (λ (x : ℕ). LieApart r transfer.from.id x) (sym left.to)
      (roomed-apart b r made transfer.from.id copy
      (host-apart b transfer.from.id copy home.space left.host
      (subst (λ (o : Option Home). IfSome o (λ other. other.space ≡ home.space)) (sym lies) refl) far))

  pub left-pinned : 0 < pins_in (copy_at b copy) → 0 < pins_in (copy_at r transfer.to.id)
  left-pinned pinned = subst (λ (x : ℕ). 0 < pins_in (copy_at r x)) (sym left.to) (omega (arith, pinned, roomed-pins b r made copy))

  pub left-room : (cells len : ℕ) → IsSound b → AddsSends b r (copy ∷ []) cells → cells ≡ len → HasSends r (transfer.to.id ∷ []) len
  left-room cells len sound adds same = subst (λ (x : ℕ). HasSends r (x ∷ []) len) (sym left.to)
      (subst (λ (x : ℕ). HasSends r (copy ∷ []) x) (omega (arith, same)) (adds [] 0 (has-none b sound)))

  -- and it was sent
  module _ (a n : DirectoryView) (number : ℕ) (x : Acquires a b copy) (sent : Sends r n number transfer.from.id transfer.to.id transfer.range.lo transfer.range.hi) where
    pub left-flying : 0 < pins_in (copy_at b copy) → IsFlying n number copy
    left-flying pinned = subst (λ (y : ℕ). IsFlying n number y) left.to
        (sent-flying r n number transfer.from.id transfer.to.id transfer.range.lo transfer.range.hi sent (left-pinned pinned))

    pub left-new : mail_at a number ≡ None
    left-new = sym (made.messages.mails number ∙ ap (λ (m : MessagesView). mail_of m number) (messages-acquires a b copy x))
        ∙ sent-new r n number transfer.from.id transfer.to.id transfer.range.lo transfer.range.hi sent

    same_pins : (q : ℕ) → pins_in (copy_at n q) ≡ pins_in (copy_at b q)
    same_pins q = sent-pins r n number transfer.from.id transfer.to.id transfer.range.lo transfer.range.hi sent q ∙ roomed-pins b r made q

    pub left-more : 0 < pins_in (copy_at b copy) → pins_in (copy_at a copy) < pins_in (copy_at n copy)
    left-more pinned = omega (arith, pinned-acquires a b copy x pinned, same_pins copy)

    pub left-pins : (q : ℕ) → pins_in (copy_at a q) ≤ pins_in (copy_at n q)
    left-pins q = omega (arith, pins-acquires a b copy x q, same_pins q)

    pub left-others : (k q : ℕ) → IsFlying a k q → IsFlying n k q
    left-others k q is = sent-others r n number transfer.from.id transfer.to.id transfer.range.lo transfer.range.hi sent k q
        (roomed-flying b r made k q (flying-acquires a b copy x k q is))

    pub left-keeps : Keeps a n
    left-keeps = keeps-trans a b n (keeps-acquires a b copy x) (keeps-trans b r n (roomed-keeps b r made)
        (sent-keeps r n number transfer.from.id transfer.to.id transfer.range.lo transfer.range.hi sent))
