-- What the program's own commands stand for.
use Rattle.std.specs.String.{string_bytes}
use Rattle.siit_command.specs.Addresses.{address_read}
use Rattle.siit_top.specs.Words as words
use Rattle.siit_top.specs.declared.commands.Command.{Command}
use Rattle.siit_top.specs.declared.commands.Command.TheVariants.{Run, Wkp, Map, Discover, Dns64}
use Rattle.siit_top.specs.declared.commands.run.RunFiles.{RunFiles}

abbrev pub files_read : RunFiles → words.RunFiles
files_read names =
    words.run_files names.configuration.now names.left.now names.right.now names.left_output.now names.right_output.now names.report.now

abbrev pub command_read : Command → words.Command
command_read (Run configuration left right left_output right_output report) =
    words.carry_run
    (words.run_files configuration.now left.now right.now left_output.now right_output.now report.now)
command_read (Wkp input output) = words.wkp (string_bytes input.now) (string_bytes output.now)
command_read (Map configuration device address) =
    words.map_address (string_bytes configuration.now) device (address_read address)
command_read (Discover answer) = words.discover (string_bytes answer.now)
command_read (Dns64 prefix query aaaa a output) =
    words.synthesis prefix (words.messages_of query.now aaaa.now (words.given_name a.now)) output.now
