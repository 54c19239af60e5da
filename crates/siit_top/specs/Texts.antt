-- The exit statuses and the lines of the program.
use Rattle.std.specs.Prelude.{ℕ, List, [], ◌∷◌, ◌++◌, codes}
use Rattle.std.specs.Fmt.{decimal}
use Rattle.siit_capture.specs.declared.form.CaptureFault.{CaptureFault}
use Rattle.siit_capture.specs.declared.form.CaptureFault.TheVariants.{BadMagic, BadVersion, BadLinkType, RecordTooLong, BadTime, CutRecord}
use Rattle.siit_chain.specs.declared.origin.End.{End}
use Rattle.siit_chain.specs.declared.origin.End.TheVariants.{Left, Right}
use Rattle.siit_top.specs.declared.status.Status.{Status}
use Rattle.siit_top.specs.declared.status.Status.TheVariants.{Ok, BadWords, BadConfig, ReadFault, WriteFault, BadCapture, BadMessage, NoMemory, TooLong, NoDevice}
use Rattle.siit_config.specs.declared.fault.ConfigFault.{ConfigFault}
use Rattle.siit_command.specs.ConfigTexts.{config_text}
use Rattle.siit_dns.specs.declared.fault.DnsFault.{DnsFault}
use Rattle.siit_dns.specs.declared.fault.DnsFault.TheVariants as dns

abbrev pub end_name : End → List ℕ
end_name Left = codes "left"
end_name Right = codes "right"

abbrev pub fault_name : CaptureFault → List ℕ
fault_name BadMagic = codes "BadMagic"
fault_name BadVersion = codes "BadVersion"
fault_name BadLinkType = codes "BadLinkType"
fault_name RecordTooLong = codes "RecordTooLong"
fault_name BadTime = codes "BadTime"
fault_name CutRecord = codes "CutRecord"

abbrev pub status_code : Status → ℕ
status_code Ok = 0
status_code BadWords = 2
status_code (BadConfig fault) = 3
status_code ReadFault = 4
status_code WriteFault = 5
status_code (BadCapture end place fault) = 6
status_code NoMemory = 7
status_code (TooLong word) = 8
status_code (BadMessage word fault) = 9
status_code NoDevice = 10

abbrev pub bad_capture_text : End → (place : ℕ) → CaptureFault → List ℕ
bad_capture_text end place fault =
    codes "siit: bad capture: " ++ end_name end ++ codes " at " ++ decimal place ++ codes ": " ++ fault_name fault ++ 10 ∷ []

abbrev pub too_long_text : (word : ℕ) → List ℕ
too_long_text word = codes "siit: too long: word " ++ decimal word ++ 10 ∷ []

abbrev pub bad_config_text : ConfigFault → List ℕ
bad_config_text fault = codes "siit: bad config: " ++ config_text fault ++ 10 ∷ []

-- what is wrong with a DNS message; want of memory is no fault of one, and has no text
abbrev pub message_fault_text : DnsFault → List ℕ
message_fault_text (dns.Bad place) = codes "at " ++ decimal place
message_fault_text dns.NotQuery = codes "not query"
message_fault_text dns.NotAnswer = codes "not answer"
message_fault_text dns.AnswerTooLong = codes "answer too long"
message_fault_text dns.NoMemory = []

abbrev pub bad_message_text : (word : ℕ) → DnsFault → List ℕ
bad_message_text word fault =
    codes "siit: bad message: word " ++ decimal word ++ codes ": " ++ message_fault_text fault ++ 10 ∷ []

-- the line of a status, and no bytes for Ok
abbrev pub status_text : Status → List ℕ
status_text Ok = []
status_text BadWords = codes "siit: bad words\n"
status_text (BadConfig fault) = bad_config_text fault
status_text ReadFault = codes "siit: read fault\n"
status_text WriteFault = codes "siit: write fault\n"
status_text (BadCapture end place fault) = bad_capture_text end place fault
status_text NoMemory = codes "siit: no memory\n"
status_text (TooLong word) = too_long_text word
status_text (BadMessage word fault) = bad_message_text word fault
status_text NoDevice = codes "siit: no device\n"
