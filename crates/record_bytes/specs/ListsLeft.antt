-- What walks over the list of a record give: what is still to come, and an item that is given as one of the list.
use Rattle.std.specs.Prelude.{List}
use Rattle.record_layout.specs.Declarations.{Declaration, declarations_of}
use Rattle.record_layout.specs.Entries.{Entry, entries_of}
use Rattle.record_bytes.specs.declared.lists.Declarations.{Declarations}
use Rattle.record_bytes.specs.declared.lists.Declaration as given_declaration
use Rattle.record_bytes.specs.declared.lists.Entries.{Entries}
use Rattle.record_bytes.specs.declared.lists.Entry as given_entry

abbrev pub declarations_left : Declarations → List Declaration
declarations_left walk = declarations_of walk.0.now

abbrev pub as_declaration : given_declaration.Declaration → Declaration
as_declaration given = record { object = given.object.0; supremum = given.supremum }

abbrev pub entries_left : Entries → List Entry
entries_left walk = entries_of walk.0.now

abbrev pub as_entry : given_entry.Entry → Entry
as_entry given = record { object = given.object.0; version = given.version.0 }
