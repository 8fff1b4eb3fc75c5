-- What a waiter wants.
use Rattle.definitions.specs.Settings.{Request}
use Rattle.definitions.specs.Waits.{Waiter}

abbrev pub request_wanted : Waiter → Request
request_wanted w = w.request
