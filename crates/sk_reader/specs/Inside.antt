-- What a cursor shows.
use Rattle.sk_reader.specs.declared.cursor.Cursor.TheInside.{Inside}
use Rattle.sk_reading.specs.Reading.{Place}

abbrev pub place_of : Inside → Place
place_of c = record { rest = c.rest.now; nodes = c.nodes; instances = c.instances }
