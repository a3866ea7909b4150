-- From the inputs that a text gives to those of a run, and from the containers that a run leaves to those that are dumped.
use Rattle.sk_data.specs.declared.given.Dumped.{Dumped}
use Rattle.sk_data.specs.declared.given.Given.{Given}
use Rattle.sk_world.specs.World.{Container, Input}

-- an input of a run: what a text gives it
abbrev pub input_of : Given → Input
input_of given = record { name = given.name; sizes = given.shape; cells = given.cells }

-- a container that is dumped: it goes without its number and its type
abbrev pub dumped_of : Container → Dumped
dumped_of container = record { name = container.name; shape = container.sizes; cells = container.cells }
