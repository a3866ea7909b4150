-- The names in scope, as the scheme, the machine and evaluation have them.
use Rattle.std.proofs.Common.{◌≡◌, ℕ, suc, ◌-◌, ◌<◌, ◌≤◌, List, [], ◌∷◌, ◌++◌, length, map, drop, ℤ, Some, None, refl, sym, ap, ◌∙◌, subst, arith, length-append}
use Rattle.std.specs.Prelude.{slice_get, slice_set, Result, Ok, Err, if◌then◌else◌, true, false, Bool}
use Rattle.std.specs.List.{list_all}
use Rattle.sk_base.specs.declared.number.Ty.{Ty}
use Rattle.sk_base.specs.declared.number.Trap.{Trap}
use Rattle.sk_base.specs.Arithmetic.{InRange, wrapped}
use Rattle.sk_base.specs.ArithmeticLaws.{wrapped-in_range}
use Rattle.sk_names.specs.Bindings.{bound_to}
use Rattle.sk_names.specs.Bytes.{same_bytes}
use Rattle.sk_meaning.specs.Evaluation.{Argument, Value, Place, Whole, Neighbours, Binding, Scope, Callable, Callables, kind_type, assigned, scalar_binding, left_behind}
use Rattle.sk_tree.specs.declared.tree.ParamKind.{ParamKind}
use Rattle.sk_tree.specs.declared.tree.ParamKind.TheVariants.{Scalar, Index, Proxy, Region}
use Rattle.sk_isa.specs.Coded.{Callee}
use Rattle.sk_isa.specs.Soundness.{SuitsParam, is_scalar}
use Rattle.sk_scheme.specs.Scheme.{Slot, Known}
use Rattle.sk_plain.specs.Plain.{Parameters}
use Rattle.sk_plain.proofs.Truths.{some_same}
use Rattle.sk_plain.proofs.Lists.{slice_get-set_same, slice_get-set_other, slice_get-set_above}
use Rattle.sk_plain.proofs.Bindings.{bound_to-here}

-- the parameters' types of the values
abbrev pub fitted : List ParamKind → List ℤ → List ℤ
fitted [] values = []
fitted (kind ∷ kinds) [] = []
fitted (kind ∷ kinds) (value ∷ values) = wrapped (kind_type kind) value ∷ fitted kinds values

-- the value of a call is of the type, and leaves no more turns
abbrev pub IsCallValue : Ty → ℕ → Result (ℤ × ℕ) Trap → Type 0
IsCallValue ty turns (Ok done) = InRange ty done.0 × (done.1 ≤ turns)
IsCallValue ty turns (Err trap) = Unit {0}

-- a function of scalars, as each of them has it
pub record IsCallee (callees : List Callee) (known : Known) (callable : Callable) : Type 0 where
  pub callee : Callee
  pub there : slice_get callees known.number ≡ Some callee
  pub takes : callee.takes ≡ length known.kinds
  pub call : (values : List ℤ) (turns : ℕ) → length values ≡ length known.kinds
      → callee.call (fitted known.kinds values) turns ≡ callable.call (map Value values) turns
  pub gives : (values : List ℤ) (turns : ℕ) → length values ≡ length known.kinds → IsCallValue known.ret turns (callable.call (map Value values) turns)

-- a function before, which may be called where it takes scalars
pub record IsEarlier (callees : List Callee) (kinds : List ParamKind) (known : Known) (callable : Callable) : Type 0 where
  pub kinds_are : known.kinds ≡ kinds
  pub ret : callable.ret ≡ known.ret
  pub called : list_all is_scalar known.kinds ≡ true → IsCallee callees known callable

-- the same functions in the same order
abbrev pub AreCallees : List Callee → Parameters → List (List ℕ × Known) → Callables → Type 0
AreCallees callees [] [] [] = Unit {0}
AreCallees callees (c ∷ cs) (k ∷ ks) (f ∷ fs) = (c.0 ≡ k.0) × (c.0 ≡ f.0) × IsEarlier callees c.1 k.1 f.1 × AreCallees callees cs ks fs
AreCallees callees parameters known callables = ⊥

pub record IsFound (callees : List Callee) (name : List ℕ) (kinds : List ParamKind) (ks : List (List ℕ × Known)) (fs : Callables) : Type 0 where
  pub known : Known
  pub callable : Callable
  pub known_is : bound_to name ks ≡ Some known
  pub callable_is : bound_to name fs ≡ Some callable
  pub same : IsEarlier callees kinds known callable

pub callee_found : (callees : List Callee) (name : List ℕ) (kinds : List ParamKind) (cs : Parameters) (ks : List (List ℕ × Known)) (fs : Callables) → AreCallees callees cs ks fs
    → bound_to name cs ≡ Some kinds → IsFound callees name kinds ks fs
callee_found callees name kinds [] [] [] h e = let no : ⊥ = cc in absurd no
callee_found callees name kinds (c ∷ cs) (k ∷ ks) (f ∷ fs) h e = by_test (same_bytes c.0 name) refl (callee_found callees name kinds cs ks fs h.3)
  where
    by_test : (b : Bool) → same_bytes c.0 name ≡ b → (bound_to name cs ≡ Some kinds → IsFound callees name kinds ks fs) → IsFound callees name kinds (k ∷ ks) (f ∷ fs)
    by_test true s later =
        let is : c.1 ≡ kinds = some_same c.1 kinds (sym (bound_to-here name c.0 c cs true refl s) ∙ e) in
        record {
          known = k.1;
          callable = f.1;
          known_is = bound_to-here name c.0 k ks true h.0 s;
          callable_is = bound_to-here name c.0 f fs true h.1 s;
          same = subst (λ (n : List ParamKind). IsEarlier callees n k.1 f.1) is h.2;
        }
    by_test false s later =
        let r = later (sym (bound_to-here name c.0 c cs false refl s) ∙ e) in
        record {
          known = r.known;
          callable = r.callable;
          known_is = bound_to-here name c.0 k ks false h.0 s ∙ r.known_is;
          callable_is = bound_to-here name c.0 f fs false h.1 s ∙ r.callable_is;
          same = r.same;
        }
callee_found callees name kinds cs ks fs h e = absurd h

-- What a name in scope stands for: a scalar's value is in its slot, and any other parameter is the argument of its number.
abbrev pub IsHeld : List Argument → List ℤ → (number : ℕ) → ParamKind → Argument → Type 0
IsHeld arguments slots number (Scalar ty) (Value value) = (slice_get slots number ≡ Some value) × InRange ty value
IsHeld arguments slots number (Scalar ty) (Place place) = ⊥
IsHeld arguments slots number (Scalar ty) (Whole sizes cells) = ⊥
IsHeld arguments slots number (Scalar ty) (Neighbours overlaps at) = ⊥
IsHeld arguments slots number (Index dimension) argument = (slice_get arguments number ≡ Some argument) × SuitsParam (Index dimension) argument
IsHeld arguments slots number (Proxy dimension ty) argument = (slice_get arguments number ≡ Some argument) × SuitsParam (Proxy dimension ty) argument
IsHeld arguments slots number (Region dimension ty) argument = (slice_get arguments number ≡ Some argument) × SuitsParam (Region dimension ty) argument

-- where the slot is as it was
held_moved : (arguments : List Argument) (slots slots' : List ℤ) (number : ℕ) (kind : ParamKind) (argument : Argument) → slice_get slots' number ≡ slice_get slots number
    → IsHeld arguments slots number kind argument → IsHeld arguments slots' number kind argument
held_moved arguments slots slots' number (Scalar ty) (Value value) e h = (e ∙ h.0, h.1)
held_moved arguments slots slots' number (Scalar ty) (Place place) e h = h
held_moved arguments slots slots' number (Scalar ty) (Whole sizes cells) e h = h
held_moved arguments slots slots' number (Scalar ty) (Neighbours overlaps at) e h = h
held_moved arguments slots slots' number (Index dimension) argument e h = h
held_moved arguments slots slots' number (Proxy dimension ty) argument e h = h
held_moved arguments slots slots' number (Region dimension ty) argument e h = h

-- a scalar's value
pub record IsScalarHeld (slots : List ℤ) (number : ℕ) (argument : Argument) (ty : Ty) : Type 0 where
  pub value : ℤ
  pub argument_is : argument ≡ Value value
  pub held : slice_get slots number ≡ Some value
  pub fits : InRange ty value

pub scalar_held : (arguments : List Argument) (slots : List ℤ) (number : ℕ) (kind : ParamKind) (argument : Argument) (ty : Ty) → kind ≡ Scalar ty
    → IsHeld arguments slots number kind argument → IsScalarHeld slots number argument ty
scalar_held arguments slots number kind argument ty e h = by_argument argument (subst (λ (k : ParamKind). IsHeld arguments slots number k argument) e h)
  where
    by_argument : (given : Argument) → IsHeld arguments slots number (Scalar ty) given → IsScalarHeld slots number given ty
    by_argument (Value value) g = record { value = value; argument_is = refl; held = g.0; fits = g.1 }
    by_argument (Place place) g = absurd g
    by_argument (Whole sizes cells) g = absurd g
    by_argument (Neighbours overlaps at) g = absurd g

-- the argument of a parameter that is no scalar
pub other_held : (arguments : List Argument) (slots : List ℤ) (number : ℕ) (kind : ParamKind) (argument : Argument) → is_scalar kind ≡ false
    → IsHeld arguments slots number kind argument → (slice_get arguments number ≡ Some argument) × SuitsParam kind argument
other_held arguments slots number (Scalar ty) argument e h = let no : ⊥ = cc in absurd no
other_held arguments slots number (Index dimension) argument e h = h
other_held arguments slots number (Proxy dimension ty) argument e h = h
other_held arguments slots number (Region dimension ty) argument e h = h

module _ (arguments : List Argument) where
  -- a name in scope, as each of them has it: its slot is one of those so far
  pub record IsLocal (one : List ℕ × Slot) (other : List ℕ × Binding) (slots : List ℤ) (bound : ℕ) : Type 0 where
    pub name : one.0 ≡ other.0
    pub kind_is : one.1.kind ≡ other.1.kind
    pub below : one.1.number < bound
    pub held : IsHeld arguments slots one.1.number one.1.kind other.1.argument

  -- the same names in the same order, and later ones in higher slots
  abbrev pub Agree : List (List ℕ × Slot) → Scope → List ℤ → ℕ → Type 0
  Agree [] [] slots bound = Unit {0}
  Agree (one ∷ scope) (other ∷ values) slots bound = IsLocal one other slots bound × Agree scope values slots one.1.number
  Agree scope values slots bound = ⊥

  local_moved : (one : List ℕ × Slot) (other : List ℕ × Binding) (slots slots' : List ℤ) (bound bound' : ℕ) (h : IsLocal one other slots bound) → one.1.number < bound'
      → slice_get slots' one.1.number ≡ slice_get slots one.1.number → IsLocal one other slots' bound'
  local_moved one other slots slots' bound bound' h below moved = record {
    name = h.name;
    kind_is = h.kind_is;
    below = below;
    held = held_moved arguments slots slots' one.1.number one.1.kind other.1.argument moved h.held;
  }

  pub agree_wider : (scope : List (List ℕ × Slot)) (values : Scope) (slots : List ℤ) (bound more : ℕ) → bound ≤ more → Agree scope values slots bound → Agree scope values slots more
  agree_wider [] [] slots bound more le h = tt
  agree_wider (one ∷ scope) (other ∷ values) slots bound more le h =
      (local_moved one other slots slots bound more h.0 (omega (arith, h.0.below, le)) refl, h.1)
  agree_wider scope values slots bound more le h = absurd h

  -- a slot that is not yet one of a name
  pub agree_set : (scope : List (List ℕ × Slot)) (values : Scope) (slots : List ℤ) (bound slot : ℕ) (v : ℤ) → bound ≤ slot → Agree scope values slots bound
      → Agree scope values (slice_set slots slot v) bound
  agree_set [] [] slots bound slot v le h = tt
  agree_set (one ∷ scope) (other ∷ values) slots bound slot v le h =
      let below : one.1.number < slot = omega (arith, h.0.below, le) in (
        local_moved one other slots (slice_set slots slot v) bound bound h.0 h.0.below (slice_get-set_other slots one.1.number slot v below),
        agree_set scope values slots one.1.number slot v (omega (arith, below)) h.1,
      )
  agree_set scope values slots bound slot v le h = absurd h

  pub agree_declare : (scope : List (List ℕ × Slot)) (values : Scope) (slots : List ℤ) (slot : ℕ) (name : List ℕ) (ty : Ty) (v : ℤ) → slot < length slots → InRange ty v
      → Agree scope values slots slot
      → Agree ((name, record { number = slot; kind = Scalar ty }) ∷ scope) ((name, record { kind = Scalar ty; argument = Value v }) ∷ values) (slice_set slots slot v) (suc slot)
  agree_declare scope values slots slot name ty v within fits h = (
    record { name = refl; kind_is = refl; below = omega arith; held = (slice_get-set_same slots slot v within, fits) },
    agree_set scope values slots slot slot v (omega arith) h,
  )

  -- a name in scope with its slot, as each has it
  pub record IsBound (name : List ℕ) (slot : Slot) (scope : List (List ℕ × Slot)) (values : Scope) (slots : List ℤ) (bound : ℕ) : Type 0 where
    pub binding : Binding
    pub binding_is : bound_to name values ≡ Some binding
    pub kind_is : slot.kind ≡ binding.kind
    pub below : slot.number < bound
    pub held : IsHeld arguments slots slot.number slot.kind binding.argument
    -- another value for a scalar
    pub set : (ty : Ty) → slot.kind ≡ Scalar ty → (v : ℤ) → slot.number < length slots → Agree scope (assigned name v values) (slice_set slots slot.number (wrapped ty v)) bound

  assigned-here : (name : List ℕ) (v : ℤ) (p : List ℕ × Binding) (values : Scope) (b : Bool) → same_bytes p.0 name ≡ b
      → assigned name v (p ∷ values) ≡ (if b then (p.0, scalar_binding (kind_type p.1.kind) v) ∷ values else p ∷ assigned name v values)
  assigned-here name v p values b s =
      ap (λ c. if c then (p.0, scalar_binding (kind_type p.1.kind) v) ∷ values else p ∷ assigned name v values) s

  -- the latest scalar of a name is given another value
  assigned_first : (one : List ℕ × Slot) (other : List ℕ × Binding) (scope : List (List ℕ × Slot)) (values : Scope) (slots : List ℤ) (bound : ℕ) (ty : Ty)
      → IsLocal one other slots bound → Agree scope values slots one.1.number → one.1.kind ≡ Scalar ty → (v : ℤ) → one.1.number < length slots
      → Agree (one ∷ scope) ((other.0, scalar_binding (kind_type other.1.kind) v) ∷ values) (slice_set slots one.1.number (wrapped ty v)) bound
  assigned_first one other scope values slots bound ty h rest kind v within =
      let ty_is : kind_type other.1.kind ≡ ty = ap kind_type (sym h.kind_is ∙ kind) in
      let after : List ℤ = slice_set slots one.1.number (wrapped ty v) in
      let held : IsHeld arguments after one.1.number (Scalar ty) (Value (wrapped ty v)) = (slice_get-set_same slots one.1.number (wrapped ty v) within, wrapped-in_range ty v) in
      let held' : IsHeld arguments after one.1.number one.1.kind (Value (wrapped ty v)) = subst (λ (k : ParamKind). IsHeld arguments after one.1.number k (Value (wrapped ty v))) (sym kind) held in (
        record {
          name = h.name;
          kind_is = kind ∙ ap (λ (t : Ty). Scalar t) (sym ty_is);
          below = h.below;
          held = subst (λ (t : Ty). IsHeld arguments after one.1.number one.1.kind (Value (wrapped t v))) (sym ty_is) held';
        },
        agree_set scope values slots one.1.number one.1.number (wrapped ty v) (omega arith) rest,
      )

  pub name_bound : (name : List ℕ) (slot : Slot) (scope : List (List ℕ × Slot)) (values : Scope) (slots : List ℤ) (bound : ℕ) → Agree scope values slots bound
      → bound_to name scope ≡ Some slot → IsBound name slot scope values slots bound
  name_bound name slot [] [] slots bound h e = let no : ⊥ = cc in absurd no
  name_bound name slot (one ∷ scope) (other ∷ values) slots bound h e =
      by_test (same_bytes one.0 name) refl (name_bound name slot scope values slots one.1.number h.1)
    where
      by_test : (b : Bool) → same_bytes one.0 name ≡ b → (bound_to name scope ≡ Some slot → IsBound name slot scope values slots one.1.number)
          → IsBound name slot (one ∷ scope) (other ∷ values) slots bound
      by_test true s later =
          let same : one.1 ≡ slot = some_same one.1 slot (sym (bound_to-here name one.0 one scope true refl s) ∙ e) in
          let s' : same_bytes other.0 name ≡ true = ap (λ (m : List ℕ). same_bytes m name) (sym h.0.name) ∙ s in
          subst (λ (x : Slot). IsBound name x (one ∷ scope) (other ∷ values) slots bound) same (record {
            binding = other.1;
            binding_is = bound_to-here name one.0 other values true h.0.name s;
            kind_is = h.0.kind_is;
            below = h.0.below;
            held = h.0.held;
            set = λ ty kind v within.
                subst (λ (vs : Scope). Agree (one ∷ scope) vs (slice_set slots one.1.number (wrapped ty v)) bound) (sym (assigned-here name v other values true s'))
                (assigned_first one other scope values slots bound ty h.0 h.1 kind v within);
          })
      by_test false s later =
          let r = later (sym (bound_to-here name one.0 one scope false refl s) ∙ e) in
          record {
            binding = r.binding;
            binding_is = bound_to-here name one.0 other values false h.0.name s ∙ r.binding_is;
            kind_is = r.kind_is;
            below = omega (arith, r.below, h.0.below);
            held = r.held;
            set = λ ty kind v within.
                let w : ℤ = wrapped ty v in
                let s' : same_bytes other.0 name ≡ false = ap (λ (m : List ℕ). same_bytes m name) (sym h.0.name) ∙ s in
                subst (λ (vs : Scope). Agree (one ∷ scope) vs (slice_set slots slot.number w) bound) (sym (assigned-here name v other values false s')) (
                  local_moved one other slots (slice_set slots slot.number w) bound bound h.0 h.0.below (slice_get-set_above slots one.1.number slot.number w r.below),
                  r.set ty kind v within,
                );
          }
  name_bound name slot scope values slots bound h e = absurd h

  -- a name that is not among those in scope
  pub name_unbound : (name : List ℕ) (scope : List (List ℕ × Slot)) (values : Scope) (slots : List ℤ) (bound : ℕ) → Agree scope values slots bound
      → bound_to name scope ≡ None → bound_to name values ≡ None
  name_unbound name [] [] slots bound h e = refl
  name_unbound name (one ∷ scope) (other ∷ values) slots bound h e =
      by_test (same_bytes one.0 name) refl (name_unbound name scope values slots one.1.number h.1)
    where
      by_test : (b : Bool) → same_bytes one.0 name ≡ b → (bound_to name scope ≡ None → bound_to name values ≡ None) → bound_to name (other ∷ values) ≡ None
      by_test true s later =
          let no : Some one.1 ≡ None = sym (bound_to-here name one.0 one scope true refl s) ∙ e in
          let wrong : ⊥ = cc in absurd wrong
      by_test false s later = bound_to-here name one.0 other values false h.0.name s ∙ later (sym (bound_to-here name one.0 one scope false refl s) ∙ e)
  name_unbound name scope values slots bound h e = absurd h

  pub agree_length : (scope : List (List ℕ × Slot)) (values : Scope) (slots : List ℤ) (bound : ℕ) → Agree scope values slots bound → length scope ≡ length values
  agree_length [] [] slots bound h = refl
  agree_length (one ∷ scope) (other ∷ values) slots bound h = ap suc (agree_length scope values slots one.1.number h.1)
  agree_length scope values slots bound h = absurd h

  -- the names that a block declared are gone
  pub agree_behind : (new scope : List (List ℕ × Slot)) (values : Scope) (outer : Scope) (slots : List ℤ) (bound : ℕ) → length scope ≡ length outer
      → Agree (new ++ scope) values slots bound → Agree scope (left_behind outer values) slots bound
  agree_behind [] scope values outer slots bound e h =
      let none : length values - length outer ≡ 0 = omega (arith, agree_length scope values slots bound h) in
      subst (λ n. Agree scope (drop n values) slots bound) (sym none) h
  agree_behind (one ∷ new) scope [] outer slots bound e h = absurd h
  agree_behind (one ∷ new) scope (other ∷ values) outer slots bound e h =
      let more : length (other ∷ values) - length outer ≡ suc (length values - length outer) =
      omega (arith, agree_length (new ++ scope) values slots one.1.number h.1, length-append new scope) in
      subst (λ n. Agree scope (drop n (other ∷ values)) slots bound) (sym more)
      (agree_wider scope (left_behind outer values) slots one.1.number bound (omega (arith, h.0.below))
      (agree_behind new scope values outer slots one.1.number e h.1))

  -- the latest name is in a slot below a bound, whatever the values are
  pub agree_lower : (scope : List (List ℕ × Slot)) (values values0 : Scope) (slots slots0 : List ℤ) (more bound : ℕ) → Agree scope values slots more → Agree scope values0 slots0 bound
      → Agree scope values slots bound
  agree_lower [] [] values0 slots slots0 more bound h g = tt
  agree_lower (one ∷ scope) (other ∷ values) (other0 ∷ values0) slots slots0 more bound h g =
      (local_moved one other slots slots more bound h.0 g.0.below refl, h.1)
  agree_lower (one ∷ scope) (other ∷ values) [] slots slots0 more bound h g = absurd g
  agree_lower scope values values0 slots slots0 more bound h g = absurd h

  -- with no name declared
  pub agree_same : (scope : List (List ℕ × Slot)) (values outer : Scope) (slots : List ℤ) (bound : ℕ) → length scope ≡ length outer → Agree scope values slots bound
      → Agree scope (left_behind outer values) slots bound
  agree_same scope values outer slots bound e h = agree_behind [] scope values outer slots bound e h
