-- The configuration of `wkp` is what these members of a document give.
use Rattle.std.specs.Prelude.{◌≡◌, pos, codes, Ok}
use Rattle.toml.specs.Data.{string, integer, array, table, no_items, item, Members, no_members, member}
use Rattle.siit_config.specs.Config.{chain_settings_of}
use Rattle.siit_top.specs.WellKnown.{well_known_chain}

abbrev plain_device : Members
plain_device =
    member (codes "address4") (string (codes "203.0.113.1"))
    (member (codes "address6") (string (codes "2001:db8:ffff::1"))
    (member (codes "prefix") (string (codes "64:ff9b::/96"))
    (member (codes "role") (string (codes "plain")) no_members)))

abbrev document : Members
document =
    member (codes "device") (array (item (table plain_device) no_items)) (member (codes "left") (integer (pos 4)) no_members)

abbrev pub WellKnownExamples : Type 0
WellKnownExamples = chain_settings_of document ≡ Ok well_known_chain
