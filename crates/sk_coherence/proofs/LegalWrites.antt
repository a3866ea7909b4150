-- A write that a line of the host says is legal.
use Rattle.std.proofs.Common.{◌≡◌, ◌≢◌, ℕ, ℤ, ◌+◌, ◌-◌, ◌<◌, ◌≤◌, ◌==◌, ◌&&◌, if◌then◌else◌, Bool, List, [], ◌∷◌, length, slice_index_or, Option, Some, None, IfSome, IsSome, arith, inr, sym, subst, ◌∙◌, ap, pos}
use Rattle.sk_spaces.specs.declared.step.Step.{Step}
use Rattle.sk_spaces.specs.declared.step.Step.TheVariants as line
use Rattle.sk_spaces.specs.Machine.{Machine, Home, CopyState, unused, live, freed, is_within, writes_at, writes}
use Rattle.sk_spaces.specs.Rules.{IsThere, Covers, IsOnHost as IsHosted}
use Rattle.sk_copy_states.specs.declared.held.Held.{Held}
use Rattle.sk_copy_states.specs.Copies.{ReachesIn, home_in, home_store, store_in, state_in}
use Rattle.sk_coherence_laws.specs.Directory.{DirectoryView, copy_at}
use Rattle.sk_coherence_laws.specs.Traced.{IsLike, TracesStep, TracesWrite}
use Rattle.sk_coherence_laws.proofs.FillLemmas.{within_or}
use Rattle.sk_coherence_laws.proofs.LegalMoves.{readable_mark}
use Rattle.sk_coherence_laws.proofs.OpenLemmas.{some_of}
use Rattle.sk_coherence_laws.proofs.TracedWrite.{live_of, and_no, within_no}
use Rattle.sk_coherence.specs.Evicts.{IsOnHost}
use Rattle.sk_coherence.specs.Named.{ClonesFrom, SaysWrite}

-- a write of the same cells
module _ (m : Machine) (copy lo hi : ℕ) (f g : ℕ → ℤ) (same : (i : ℕ) → lo ≤ i → i < hi → f i ≡ g i) where
  cells_same : (q i : ℕ) → (if (q == copy) && is_within lo hi i then f i else m.cells q i) ≡ (if (q == copy) && is_within lo hi i then g i else m.cells q i)
  cells_same q i = within_or ((if (q == copy) && is_within lo hi i then f i else m.cells q i) ≡ (if (q == copy) && is_within lo hi i then g i else m.cells q i)) lo hi i
      (λ above below. ap (λ (x : ℤ). if (q == copy) && is_within lo hi i then x else m.cells q i) (same i above below))
      (λ out. let no = and_no (q == copy) (is_within lo hi i) (inr (within_no lo hi i out)) in
      ap (λ (t : Bool). if t then f i else m.cells q i) no ∙ sym (ap (λ (t : Bool). if t then g i else m.cells q i) no))

  other_at : (n : DirectoryView) (k : CopyState) → IsLike (writes_at k copy lo hi f m) n → IsLike (writes_at k copy lo hi g m) n
  other_at n unused l = l
  other_at n freed l = l
  other_at n (live home) l = record {
    memory = l.memory;
    stores = l.stores;
    new_stores = l.new_stores;
    copies = l.copies;
    new_copies = l.new_copies;
    marks = l.marks;
    cells = λ q i readable. sym (cells_same q i) ∙ l.cells q i readable;
    used = l.used;
    messages = l.messages;
  }

  other_cells : (n : DirectoryView) → IsLike (writes copy lo hi f m) n → IsLike (writes copy lo hi g m) n
  other_cells n l = other_at n (m.copies copy) l

covers_of : (o : Option Held) (home : Home) (lo hi : ℕ) → home_in o ≡ Some home → lo ≤ hi → ReachesIn o lo hi → Covers lo hi home
covers_of None home lo hi is ordered reaches = cc
covers_of (Some held) home lo hi is ordered reaches =
    let l : held.lo ≡ home.lo = grind arith in
    let h : held.hi ≡ home.hi = grind arith in
    record { above = omega (arith, l, reaches.0); ordered = ordered; below = omega (arith, h, reaches.1) }

-- a copy on the host is one in the machine
hosted : (m : Machine) (d : DirectoryView) (q lo hi : ℕ) → IsLike m d → IsSome (copy_at d q) → IsOnHost (copy_at d q) → ReachesIn (copy_at d q) lo hi → lo ≤ hi → IsHosted m q lo hi
hosted m d q lo hi l there host reaches ordered =
    let t = live_of (m.copies q) (copy_at d q) (l.copies q) there in
    subst (λ (k : CopyState). IsThere k (λ home. (home.space ≡ 0) × Covers lo hi home)) (sym t.1)
    (subst (λ (h : Option Home). IfSome h (λ home. home.space ≡ 0)) t.2 host, covers_of (copy_at d q) t.0 lo hi t.2 ordered reaches)

-- two copies of different stores
apart_in : (m : Machine) (d : DirectoryView) (source copy : ℕ) → IsLike m d → IsSome (copy_at d source) → IsSome (copy_at d copy) → store_in (copy_at d source) ≢ store_in (copy_at d copy)
    → IsThere (m.copies source) (λ one. IsThere (m.copies copy) (λ other. one.store ≢ other.store))
apart_in m d source copy l there too apart =
    let f = live_of (m.copies source) (copy_at d source) (l.copies source) there in
    let t = live_of (m.copies copy) (copy_at d copy) (l.copies copy) too in
    subst (λ (k : CopyState). IsThere k (λ one. IsThere (m.copies copy) (λ other. one.store ≢ other.store))) (sym f.1)
    (subst (λ (k : CopyState). IsThere k (λ other. f.0.store ≢ other.store)) (sym t.1)
    (λ e. apart (ap home_store f.2 ∙ ap Some e ∙ sym (ap home_store t.2))))

module _ (d n : DirectoryView) (copy lo : ℕ) (cells : List ℤ) (there : IsSome (copy_at d copy)) (host : IsOnHost (copy_at d copy))
    (reaches : ReachesIn (copy_at d copy) lo (lo + length cells)) (w : TracesWrite d n copy lo (lo + length cells) cells) where
  by_write : TracesStep d n (line.Write copy lo cells)
  by_write m l = ((some_of m.memory _ l.memory, hosted m d copy lo (lo + length cells) l there host reaches (omega arith)), w m l)

  by_fill : (x : ℤ) → ((k : ℕ) → k < length cells → slice_index_or cells k (pos 0) ≡ x) → TracesStep d n (line.Fill copy lo (lo + length cells) x)
  by_fill x all m l = (
    (some_of m.memory _ l.memory, hosted m d copy lo (lo + length cells) l there host reaches (omega arith)),
    other_cells m copy lo (lo + length cells) (λ i. slice_index_or cells (i - lo) (pos 0)) (λ i. x)
        (λ i above below. all (i - lo) (omega (arith, above, below))) n (w m l),
  )

  by_clone : (source : ℕ) → ClonesFrom d source copy lo (lo + length cells) cells → TracesStep d n (line.Clone source copy lo (lo + length cells))
  by_clone source f m l = (
    (
      some_of m.memory _ l.memory,
      record {
        stores = apart_in m d source copy l f.there there f.apart;
        from = hosted m d source lo (lo + length cells) l f.there f.host f.reaches (omega arith);
        to = hosted m d copy lo (lo + length cells) l there host reaches (omega arith);
        readable = λ i above below e. readable_mark (state_in (copy_at d source) i) (f.readable i above below) (sym (l.marks source i f.there) ∙ e);
      },
    ),
    other_cells m copy lo (lo + length cells) (λ i. slice_index_or cells (i - lo) (pos 0)) (m.cells source)
        (λ i above below. f.equal i above below ∙ sym (l.cells source i (f.readable i above below))) n (w m l),
  )

by_poke : (d n : DirectoryView) (copy lo : ℕ) (x : ℤ) → IsSome (copy_at d copy) → IsOnHost (copy_at d copy) → ReachesIn (copy_at d copy) lo (lo + 1)
    → TracesWrite d n copy lo (lo + 1) (x ∷ []) → TracesStep d n (line.Poke copy lo x)
by_poke d n copy lo x there host reaches w m l = (
  (some_of m.memory _ l.memory, hosted m d copy lo (lo + 1) l there host reaches (omega arith)),
  other_cells m copy lo (lo + 1) (λ i. slice_index_or (x ∷ []) (i - lo) (pos 0)) (λ i. x)
      (λ i above below. let first : i - lo ≡ 0 = omega (arith, above, below) in ap (λ k. slice_index_or (x ∷ []) k (pos 0)) first) n (w m l),
)

-- the line that says the write is legal, and leads where the write does
pub traced-said : (d n : DirectoryView) (copy lo hi : ℕ) (cells : List ℤ) → IsSome (copy_at d copy) → IsOnHost (copy_at d copy) → ReachesIn (copy_at d copy) lo hi
    → lo + length cells ≡ hi → TracesWrite d n copy lo hi cells → (step : Step) → SaysWrite d copy lo hi cells step → TracesStep d n step
traced-said d n copy lo hi cells there host reaches len w (line.Memory ranks capacity tile lineage) is = absurd is
traced-said d n copy lo hi cells there host reaches len w (line.Store store ty shape) is = absurd is
traced-said d n copy lo hi cells there host reaches len w (line.Alloc id of at from to) is = absurd is
traced-said d n copy lo hi cells there host reaches len w (line.Free id) is = absurd is
traced-said d n copy lo hi cells there host reaches len w (line.Stale store from to) is = absurd is
traced-said d n copy lo hi cells there host reaches len w (line.Copy source target from to) is = absurd is
traced-said d n copy lo hi cells there host reaches len w (line.Back source target from to) is = absurd is
traced-said d n copy lo hi cells there host reaches len w (line.Send message source target from to) is = absurd is
traced-said d n copy lo hi cells there host reaches len w (line.Deliver message) is = absurd is
traced-said d n copy lo hi cells there host reaches len w (line.Fill to from end x) is =
    let r : ReachesIn (copy_at d copy) lo (lo + length cells) = subst (λ (h : ℕ). ReachesIn (copy_at d copy) lo h) (sym len) reaches in
    let v : TracesWrite d n copy lo (lo + length cells) cells = subst (λ (h : ℕ). TracesWrite d n copy lo h cells) (sym len) w in
    subst (λ (q : ℕ). TracesStep d n (line.Fill q from end x)) (sym is.0)
    (subst (λ (k : ℕ). TracesStep d n (line.Fill copy k end x)) (sym is.1)
    (subst (λ (h : ℕ). TracesStep d n (line.Fill copy lo h x)) (len ∙ sym is.2) (by_fill d n copy lo cells there host r v x is.3)))
traced-said d n copy lo hi cells there host reaches len w (line.Write to from xs) is =
    let r : ReachesIn (copy_at d copy) lo (lo + length cells) = subst (λ (h : ℕ). ReachesIn (copy_at d copy) lo h) (sym len) reaches in
    let v : TracesWrite d n copy lo (lo + length cells) cells = subst (λ (h : ℕ). TracesWrite d n copy lo h cells) (sym len) w in
    subst (λ (q : ℕ). TracesStep d n (line.Write q from xs)) (sym is.0)
    (subst (λ (k : ℕ). TracesStep d n (line.Write copy k xs)) (sym is.1)
    (subst (λ (c : List ℤ). TracesStep d n (line.Write copy lo c)) (sym is.2) (by_write d n copy lo cells there host r v)))
traced-said d n copy lo hi cells there host reaches len w (line.Poke to index x) is =
    let one : length cells ≡ 1 = ap length is.2 in
    let end : hi ≡ lo + 1 = omega (arith, one, len) in
    subst (λ (q : ℕ). TracesStep d n (line.Poke q index x)) (sym is.0)
    (subst (λ (k : ℕ). TracesStep d n (line.Poke copy k x)) (sym is.1)
    (by_poke d n copy lo x there host (subst (λ (h : ℕ). ReachesIn (copy_at d copy) lo h) end reaches)
    (subst (λ (c : List ℤ). TracesWrite d n copy lo (lo + 1) c) is.2 (subst (λ (h : ℕ). TracesWrite d n copy lo h cells) end w))))
traced-said d n copy lo hi cells there host reaches len w (line.Clone source to from end) is =
    let r : ReachesIn (copy_at d copy) lo (lo + length cells) = subst (λ (h : ℕ). ReachesIn (copy_at d copy) lo h) (sym len) reaches in
    let v : TracesWrite d n copy lo (lo + length cells) cells = subst (λ (h : ℕ). TracesWrite d n copy lo h cells) (sym len) w in
    let f : ClonesFrom d source copy lo (lo + length cells) cells = subst (λ (h : ℕ). ClonesFrom d source copy lo h cells) (sym len) is.3 in
    subst (λ (q : ℕ). TracesStep d n (line.Clone source q from end)) (sym is.0)
    (subst (λ (k : ℕ). TracesStep d n (line.Clone source copy k end)) (sym is.1)
    (subst (λ (h : ℕ). TracesStep d n (line.Clone source copy lo h)) (len ∙ sym is.2) (by_clone d n copy lo cells there host r v source f)))
traced-said d n copy lo hi cells there host reaches len w (line.Call call text instance variant parts recorded result operands uniforms settings) is = absurd is
traced-said d n copy lo hi cells there host reaches len w (line.Kernel call kind part from to out trapped inputs) is = absurd is
traced-said d n copy lo hi cells there host reaches len w (line.Read id from to) is = absurd is
traced-said d n copy lo hi cells there host reaches len w (line.Bind container store) is = absurd is
traced-said d n copy lo hi cells there host reaches len w (line.Unbind container) is = absurd is
traced-said d n copy lo hi cells there host reaches len w line.Flush is = absurd is
