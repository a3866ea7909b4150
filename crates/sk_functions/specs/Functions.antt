-- The function and the operator of an instance over what a call is given, as the formulas of skeletons take them.
use Rattle.sk_arguments.specs.Arguments.{Given}
use Rattle.sk_formula.specs.Skeletons.{Functions}
use Rattle.sk_kernel.specs.Kernels.{Meaning}

abbrev pub functions_by : Meaning → Given → Functions
functions_by meaning given = record { value = meaning.value given; cell = given.cells 0; join = meaning.join }
