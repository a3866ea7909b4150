-- Words by what they stand for.
use Rattle.std.proofs.Common.{◌≡◌, ℕ, ◌⊎◌, inl, inr, true, false, List, [], ◌∷◌, ◌++◌, ap, subst, sym, ◌∙◌}
use Rattle.std.specs.Prelude.{Some, None, codes}
use Rattle.std.proofs.lemmas.Bool.{cases_Bool}
use Rattle.sk_base.specs.declared.number.Ty.{Ty}
use Rattle.sk_base.specs.declared.choice.EdgeMode.TheVariants.{Duplicate, Cyclic, Pad as PadEdge}
use Rattle.sk_names.specs.Bytes.{same_bytes}
use Rattle.sk_names.specs.BytesLaws.{same_bytes-true}
use Rattle.sk_grammar.specs.Signs.{type_word, meant_by, container_words, index_words, view_words, skeleton_words, value_words, mode_words, Family}
use Rattle.sk_tree.specs.declared.tree.Expr.{Expr}
use Rattle.sk_tree.specs.declared.tree.ParamKind.{ParamKind}
use Rattle.sk_tree.specs.declared.tree.Setting.{Setting}
use Rattle.sk_tree.specs.declared.tree.Setting.TheVariants.{Scan, Lines, Edge}
use Rattle.sk_tree.specs.declared.tree.Skeleton.{Skeleton}
use Rattle.sk_printed.specs.ExpressionText.{text_of}
use Rattle.sk_printed.specs.StatementText.{setting_text}
use Rattle.sk_printed.specs.WordText.{kind_text, skeleton_text}
use Rattle.sk_words.specs.Kinds.{kind_word}

-- the word is that of one of the entries, which stands for this
abbrev Among : {A : Type 0} → List (List ℕ × A) → List ℕ → A → Type 0
Among [] name meant = ⊥
Among (entry ∷ entries) name meant = ((entry.0 ≡ name) × (entry.1 ≡ meant)) ⊎ Among entries name meant

some-same : {A : Type 0} (a b : A) → Some a ≡ Some b → a ≡ b
some-same a b e = cc

among : {A : Type 0} (entries : List (List ℕ × A)) (name : List ℕ) (meant : A) → meant_by entries name ≡ Some meant → Among entries name meant
among [] name meant is = let no : None ≡ Some meant = is in cc
among (entry ∷ entries) name meant is =
    elim (cases_Bool (same_bytes entry.0 name)) [
      | inl same ↦ inl (same_bytes-true entry.0 name same, some-same entry.1 meant (rw same at is))
      | inr other ↦ inr (among entries name meant (rw other at is))
    ]

pub container_is : (name : List ℕ) (sizes : ℕ) → meant_by container_words name ≡ Some sizes → kind_word sizes ≡ name
container_is name sizes is =
    elim (among container_words name sizes is) [
      | inl h ↦ ap kind_word (sym h.1) ∙ h.0
      | inr r ↦ elim r [
        | inl h ↦ ap kind_word (sym h.1) ∙ h.0
        | inr r ↦ elim r [
          | inl h ↦ ap kind_word (sym h.1) ∙ h.0
          | inr r ↦ elim r [
            | inl h ↦ ap kind_word (sym h.1) ∙ h.0
            | inr r ↦ absurd r
          ]
        ]
      ]
    ]

pub index_is : (name : List ℕ) (kind : ParamKind) → meant_by index_words name ≡ Some kind → kind_text kind ≡ codes "skepu::" ++ name
index_is name kind is =
    elim (among index_words name kind is) [
      | inl h ↦ ap kind_text (sym h.1) ∙ ap (λ w. codes "skepu::" ++ w) h.0
      | inr r ↦ elim r [
        | inl h ↦ ap kind_text (sym h.1) ∙ ap (λ w. codes "skepu::" ++ w) h.0
        | inr r ↦ elim r [
          | inl h ↦ ap kind_text (sym h.1) ∙ ap (λ w. codes "skepu::" ++ w) h.0
          | inr r ↦ elim r [
            | inl h ↦ ap kind_text (sym h.1) ∙ ap (λ w. codes "skepu::" ++ w) h.0
            | inr r ↦ absurd r
          ]
        ]
      ]
    ]

-- the type of a parameter that has an element type
abbrev pub view_text : List ℕ → Ty → List ℕ
view_text name ty = codes "skepu::" ++ name ++ codes "<" ++ type_word ty ++ codes ">"

pub view_is : (name : List ℕ) (kind : Ty → ParamKind) (ty : Ty) → meant_by view_words name ≡ Some kind → kind_text (kind ty) ≡ view_text name ty
view_is name kind ty is =
    elim (among view_words name kind is) [
      | inl h ↦ ap (λ k. kind_text (k ty)) (sym h.1) ∙ ap (λ w. view_text w ty) h.0
      | inr r ↦ elim r [
        | inl h ↦ ap (λ k. kind_text (k ty)) (sym h.1) ∙ ap (λ w. view_text w ty) h.0
        | inr r ↦ elim r [
          | inl h ↦ ap (λ k. kind_text (k ty)) (sym h.1) ∙ ap (λ w. view_text w ty) h.0
          | inr r ↦ elim r [
            | inl h ↦ ap (λ k. kind_text (k ty)) (sym h.1) ∙ ap (λ w. view_text w ty) h.0
            | inr r ↦ elim r [
              | inl h ↦ ap (λ k. kind_text (k ty)) (sym h.1) ∙ ap (λ w. view_text w ty) h.0
              | inr r ↦ elim r [
                | inl h ↦ ap (λ k. kind_text (k ty)) (sym h.1) ∙ ap (λ w. view_text w ty) h.0
                | inr r ↦ absurd r
              ]
            ]
          ]
        ]
      ]
    ]

pub skeleton_is : (name : List ℕ) (skeleton : Skeleton) → meant_by skeleton_words name ≡ Some skeleton → skeleton_text skeleton ≡ name
skeleton_is name skeleton is =
    elim (among skeleton_words name skeleton is) [
      | inl h ↦ ap skeleton_text (sym h.1) ∙ h.0
      | inr r ↦ elim r [
        | inl h ↦ ap skeleton_text (sym h.1) ∙ h.0
        | inr r ↦ elim r [
          | inl h ↦ ap skeleton_text (sym h.1) ∙ h.0
          | inr r ↦ elim r [
            | inl h ↦ ap skeleton_text (sym h.1) ∙ h.0
            | inr r ↦ elim r [
              | inl h ↦ ap skeleton_text (sym h.1) ∙ h.0
              | inr r ↦ elim r [
                | inl h ↦ ap skeleton_text (sym h.1) ∙ h.0
                | inr r ↦ elim r [
                  | inl h ↦ ap skeleton_text (sym h.1) ∙ h.0
                  | inr r ↦ elim r [
                    | inl h ↦ ap skeleton_text (sym h.1) ∙ h.0
                    | inr r ↦ absurd r
                  ]
                ]
              ]
            ]
          ]
        ]
      ]
    ]

-- a setting that takes a value
abbrev pub valued_text : List ℕ → List ℕ → List ℕ
valued_text setting value = setting ++ codes "(" ++ value ++ codes ")"

pub value_is : (setting : List ℕ) (sets : Expr → Setting) (value : Expr) → meant_by value_words setting ≡ Some sets → setting_text (sets value) ≡ valued_text setting (text_of value)
value_is setting sets value is =
    elim (among value_words setting sets is) [
      | inl h ↦ ap (λ f. setting_text (f value)) (sym h.1) ∙ ap (λ w. valued_text w (text_of value)) h.0
      | inr r ↦ elim r [
        | inl h ↦ ap (λ f. setting_text (f value)) (sym h.1) ∙ ap (λ w. valued_text w (text_of value)) h.0
        | inr r ↦ absurd r
      ]
    ]

-- a setting that takes a mode of a family
abbrev pub mode_text : (setting family mode : List ℕ) → List ℕ
mode_text setting family mode = setting ++ codes "(skepu::" ++ family ++ codes "::" ++ mode ++ codes ")"

two_modes : (setting family one other : List ℕ) (first second : Setting) (mode : List ℕ) (sets : Setting) → setting_text first ≡ mode_text setting family one → setting_text second ≡ mode_text setting family other → Among ((one, first) ∷ (other, second) ∷ []) mode sets → setting_text sets ≡ mode_text setting family mode
two_modes setting family one other first second mode sets a b is =
    elim is [
      | inl h ↦ ap setting_text (sym h.1) ∙ a ∙ ap (mode_text setting family) h.0
      | inr r ↦ elim r [
        | inl h ↦ ap setting_text (sym h.1) ∙ b ∙ ap (mode_text setting family) h.0
        | inr r ↦ absurd r
      ]
    ]

edge_modes : (setting : List ℕ) (mode : List ℕ) (sets : Setting) → codes "setEdgeMode" ≡ setting → Among ((codes "Duplicate", Edge Duplicate) ∷ (codes "Cyclic", Edge Cyclic) ∷ (codes "Pad", Edge PadEdge) ∷ []) mode sets → setting_text sets ≡ mode_text setting (codes "Edge") mode
edge_modes setting mode sets e is =
    elim is [
      | inl h ↦ ap setting_text (sym h.1) ∙ ap (λ w. mode_text w (codes "Edge") (codes "Duplicate")) e ∙ ap (mode_text setting (codes "Edge")) h.0
      | inr r ↦ elim r [
        | inl h ↦ ap setting_text (sym h.1) ∙ ap (λ w. mode_text w (codes "Edge") (codes "Cyclic")) e ∙ ap (mode_text setting (codes "Edge")) h.0
        | inr r ↦ elim r [
          | inl h ↦ ap setting_text (sym h.1) ∙ ap (λ w. mode_text w (codes "Edge") (codes "Pad")) e ∙ ap (mode_text setting (codes "Edge")) h.0
          | inr r ↦ absurd r
        ]
      ]
    ]

pub mode_is : (setting : List ℕ) (family : Family) (mode : List ℕ) (sets : Setting) → meant_by mode_words setting ≡ Some family → meant_by family.modes mode ≡ Some sets → setting_text sets ≡ mode_text setting family.name mode
mode_is setting family mode sets is meant =
    elim (among mode_words setting family is) [
      | inl h ↦ subst (λ (f : Family). meant_by f.modes mode ≡ Some sets → setting_text sets ≡ mode_text setting f.name mode) h.1
          (λ m. two_modes setting (codes "ScanMode") (codes "Inclusive") (codes "Exclusive") (Scan false) (Scan true) mode sets
          (ap (λ w. mode_text w (codes "ScanMode") (codes "Inclusive")) h.0) (ap (λ w. mode_text w (codes "ScanMode") (codes "Exclusive")) h.0)
          (among ((codes "Inclusive", Scan false) ∷ (codes "Exclusive", Scan true) ∷ []) mode sets m)) meant
      | inr r ↦ elim r [
        | inl h ↦ subst (λ (f : Family). meant_by f.modes mode ≡ Some sets → setting_text sets ≡ mode_text setting f.name mode) h.1
            (λ m. two_modes setting (codes "ReduceMode") (codes "RowWise") (codes "ColWise") (Lines false) (Lines true) mode sets
            (ap (λ w. mode_text w (codes "ReduceMode") (codes "RowWise")) h.0) (ap (λ w. mode_text w (codes "ReduceMode") (codes "ColWise")) h.0)
            (among ((codes "RowWise", Lines false) ∷ (codes "ColWise", Lines true) ∷ []) mode sets m)) meant
        | inr r ↦ elim r [
          | inl h ↦ subst (λ (f : Family). meant_by f.modes mode ≡ Some sets → setting_text sets ≡ mode_text setting f.name mode) h.1
              (λ m. edge_modes setting mode sets h.0
              (among ((codes "Duplicate", Edge Duplicate) ∷ (codes "Cyclic", Edge Cyclic) ∷ (codes "Pad", Edge PadEdge) ∷ []) mode sets m)) meant
          | inr r ↦ absurd r
        ]
      ]
    ]
