use Rattle.siit_engine.proofs.device.EngineDevice.translate.Given as goal

abbrev pub ghosts-translate_by : goal.ghosts-translate_by
ghosts-translate_by a = record { name = a.blank.name; parts = a.blank.parts }
