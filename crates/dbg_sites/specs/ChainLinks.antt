-- The table of chains as the code keeps it. This project's choice.
use Rattle.std.specs.Prelude.{◌≡◌, ℕ, List, map, Option, Some, None}
use Rattle.hw_base.specs.declared.pointers.Site.{Site}
use Rattle.dbg_sites.specs.declared.chains.Link.{Link}
use Rattle.dbg_sites.specs.ChainTable.{ChainEntry}

abbrev pub entry_of : Link → ChainEntry
entry_of link = record { site = record { func = link.func; inst = link.inst }; rest = link.rest }

abbrev pub entries_of : List Link → List ChainEntry
entries_of links = map entry_of links

-- an entry as the pair of its parts
abbrev pub IsPart : Option ChainEntry → Option (Site × ℕ) → Type 0
IsPart None found = found ≡ None
IsPart (Some entry) found = found ≡ Some (entry.site, entry.rest)
