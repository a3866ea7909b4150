-- How many containers and which uniform arguments a call of an instance takes.
use Rattle.std.specs.Prelude.{ℕ, suc, ◌+◌, List, [], ◌∷◌}
use Rattle.sk_arguments.specs.Arguments.{uniform_types}
use Rattle.sk_base.specs.declared.number.Ty.{Ty}
use Rattle.sk_tree.specs.declared.tree.ParamKind.{ParamKind}
use Rattle.sk_tree.specs.declared.tree.ParamKind.TheVariants.{Scalar, Index, Proxy, Region}
use Rattle.sk_tree.specs.declared.tree.Skeleton.{Skeleton}
use Rattle.sk_tree.specs.declared.tree.Skeleton.TheVariants.{Map, Reduce, Scan, MapReduce, MapOverlap, MapPairs, MapPairsReduce, Call}

-- how many containers a call takes for the elements of its function, the operands of its operator or its region
abbrev pub element_operands : Skeleton → (elements : ℕ) → ℕ
element_operands Reduce elements = 1
element_operands Scan elements = 1
element_operands MapOverlap elements = 1
element_operands Map elements = elements
element_operands MapReduce elements = elements
element_operands MapPairs elements = elements
element_operands MapPairsReduce elements = elements
element_operands Call elements = elements

abbrev pub proxies_in : List ParamKind → ℕ
proxies_in [] = 0
proxies_in (Proxy dimension ty ∷ kinds) = suc (proxies_in kinds)
proxies_in (Scalar ty ∷ kinds) = proxies_in kinds
proxies_in (Index dimension ∷ kinds) = proxies_in kinds
proxies_in (Region dimension ty ∷ kinds) = proxies_in kinds

-- how many containers a call takes beside its result, where the instance's function has these parameters
abbrev pub operands_taken : Skeleton → (elements : ℕ) → List ParamKind → ℕ
operands_taken skeleton elements kinds = element_operands skeleton elements + proxies_in kinds

-- the types of the uniform arguments of a call; an operator takes none
abbrev pub uniforms_taken : Skeleton → (elements : ℕ) → List ParamKind → List Ty
uniforms_taken Reduce elements kinds = []
uniforms_taken Scan elements kinds = []
uniforms_taken Map elements kinds = uniform_types elements kinds
uniforms_taken MapReduce elements kinds = uniform_types elements kinds
uniforms_taken MapOverlap elements kinds = uniform_types elements kinds
uniforms_taken MapPairs elements kinds = uniform_types elements kinds
uniforms_taken MapPairsReduce elements kinds = uniform_types elements kinds
uniforms_taken Call elements kinds = uniform_types elements kinds
