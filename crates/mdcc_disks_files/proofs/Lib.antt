mod Crashes
