-- The names in scope and the functions before, each with what the machine's code needs of it.
use Rattle.std.proofs.Common.{◌≡◌, ℕ, ◌<◌, List, [], ◌∷◌, ◌++◌, Some, slice_get, refl, sym, ap, ◌∙◌, subst, append_assoc, append-nil}
use Rattle.std.specs.Prelude.{true, false, Bool}
use Rattle.std.specs.List.{list_all}
use Rattle.sk_base.specs.declared.number.Ty.{Ty}
use Rattle.sk_names.specs.Bindings.{bound_to}
use Rattle.sk_names.specs.Bytes.{same_bytes}
use Rattle.sk_tree.specs.declared.tree.ParamKind.{ParamKind}
use Rattle.sk_tree.specs.declared.tree.ParamKind.TheVariants.{Scalar}
use Rattle.sk_scheme.specs.Scheme.{Slot, Known}
use Rattle.sk_isa.specs.Soundness.{is_scalar}
use Rattle.sk_isa.specs.declared.object.Signature.{Signature}
use Rattle.sk_plain.specs.Plain.{Parameters}
use Rattle.sk_plain.proofs.Truths.{some_same}
use Rattle.sk_plain.proofs.Lists.{slice_get-front, all_append}
use Rattle.sk_plain.proofs.Bindings.{bound_to-here}

-- the slot is there, with its kind; one that is no scalar's is the parameter of its number
pub record HasSlot (params slots : List ParamKind) (slot : Slot) : Type 0 where
  pub there : slice_get slots slot.number ≡ Some slot.kind
  pub param : is_scalar slot.kind ≡ false → slice_get params slot.number ≡ Some slot.kind

-- the slots of all names in scope are there
abbrev pub InScope : (params slots : List ParamKind) → List (List ℕ × Slot) → Type 0
InScope params slots [] = Unit {0}
InScope params slots (one ∷ scope) = HasSlot params slots one.1 × InScope params slots scope

-- slots to which scalars have been added at the end
pub record IsGrown (before after : List ParamKind) : Type 0 where
  pub more : List ParamKind
  pub is : after ≡ before ++ more
  pub scalars : list_all is_scalar more ≡ true

pub grown_none : (slots : List ParamKind) → IsGrown slots slots
grown_none slots = record { more = []; is = sym (append-nil slots); scalars = refl }

pub grown_one : (slots : List ParamKind) (ty : Ty) → IsGrown slots (slots ++ Scalar ty ∷ [])
grown_one slots ty = record { more = Scalar ty ∷ []; is = refl; scalars = refl }

pub grown_on : (a b c : List ParamKind) → IsGrown a b → IsGrown b c → IsGrown a c
grown_on a b c f g = record {
  more = f.more ++ g.more;
  is = g.is ∙ ap (λ l. l ++ g.more) f.is ∙ append_assoc a f.more g.more;
  scalars = all_append is_scalar f.more g.more f.scalars g.scalars;
}

pub slot_grown : (params a b : List ParamKind) (slot : Slot) → IsGrown a b → HasSlot params a slot → HasSlot params b slot
slot_grown params a b slot g h = record {
  there = subst (λ (l : List ParamKind). slice_get l slot.number ≡ Some slot.kind) (sym g.is) (slice_get-front a g.more slot.number slot.kind h.there);
  param = h.param;
}

pub scope_grown : (params a b : List ParamKind) (scope : List (List ℕ × Slot)) → IsGrown a b → InScope params a scope → InScope params b scope
scope_grown params a b [] g h = tt
scope_grown params a b (one ∷ scope) g h = (slot_grown params a b one.1 g h.0, scope_grown params a b scope g h.1)

-- the slot of a name in scope
pub slot_there : (params slots : List ParamKind) (name : List ℕ) (slot : Slot) (scope : List (List ℕ × Slot)) → InScope params slots scope → bound_to name scope ≡ Some slot → HasSlot params slots slot
slot_there params slots name slot [] h e = let no : ⊥ = cc in absurd no
slot_there params slots name slot (one ∷ scope) h e = by_test (same_bytes one.0 name) refl (slot_there params slots name slot scope h.1)
  where
    by_test : (b : Bool) → same_bytes one.0 name ≡ b → (bound_to name scope ≡ Some slot → HasSlot params slots slot) → HasSlot params slots slot
    by_test true s later = subst (λ (x : Slot). HasSlot params slots x) (some_same one.1 slot (sym (bound_to-here name one.0 one scope true refl s) ∙ e)) h.0
    by_test false s later = later (sym (bound_to-here name one.0 one scope false refl s) ∙ e)

-- a function that may be named: it is one of those below, with its signature and parameters of these kinds
pub record IsCallee (signatures : List Signature) (function : ℕ) (kinds : List ParamKind) (known : Known) : Type 0 where
  pub kinds_are : known.kinds ≡ kinds
  pub below : known.number < function
  pub signature : Signature
  pub there : slice_get signatures known.number ≡ Some signature
  pub params : signature.params ≡ known.kinds
  pub ret : signature.ret ≡ known.ret

-- the same functions in the same order
abbrev pub AreCallees : List Signature → ℕ → Parameters → List (List ℕ × Known) → Type 0
AreCallees signatures function [] [] = Unit {0}
AreCallees signatures function (c ∷ cs) (k ∷ ks) = (c.0 ≡ k.0) × IsCallee signatures function c.1 k.1 × AreCallees signatures function cs ks
AreCallees signatures function parameters known = ⊥

pub record IsFound (signatures : List Signature) (function : ℕ) (name : List ℕ) (kinds : List ParamKind) (ks : List (List ℕ × Known)) : Type 0 where
  pub known : Known
  pub is : bound_to name ks ≡ Some known
  pub callee : IsCallee signatures function kinds known

pub callee_found : (signatures : List Signature) (function : ℕ) (name : List ℕ) (kinds : List ParamKind) (cs : Parameters) (ks : List (List ℕ × Known)) → AreCallees signatures function cs ks
    → bound_to name cs ≡ Some kinds → IsFound signatures function name kinds ks
callee_found signatures function name kinds [] [] h e = let no : ⊥ = cc in absurd no
callee_found signatures function name kinds (c ∷ cs) (k ∷ ks) h e = by_test (same_bytes c.0 name) refl (callee_found signatures function name kinds cs ks h.2)
  where
    by_test : (b : Bool) → same_bytes c.0 name ≡ b → (bound_to name cs ≡ Some kinds → IsFound signatures function name kinds ks) → IsFound signatures function name kinds (k ∷ ks)
    by_test true s later =
        let is : c.1 ≡ kinds = some_same c.1 kinds (sym (bound_to-here name c.0 c cs true refl s) ∙ e) in
        record {
          known = k.1;
          is = bound_to-here name c.0 k ks true h.0 s;
          callee = subst (λ (n : List ParamKind). IsCallee signatures function n k.1) is h.1;
        }
    by_test false s later =
        let r = later (sym (bound_to-here name c.0 c cs false refl s) ∙ e) in
        record { known = r.known; is = bound_to-here name c.0 k ks false h.0 s ∙ r.is; callee = r.callee }
callee_found signatures function name kinds cs ks h e = absurd h
